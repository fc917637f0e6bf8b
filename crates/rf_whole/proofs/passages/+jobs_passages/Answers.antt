-- Two halves are the whole, and what the second is refused for the whole is.
use Rattle.std.proofs.Common.{rules, false}
use Rattle.std.specs.Str.{chars}
use Rattle.rf_style.specs.StyleOf.{seen}
use Rattle.rf_whole.specs.Passages.{IsPassage}
use Rattle.rf_whole.proofs.Missed.{passage_accepted}
use Rattle.rf_whole.proofs.PassageByPassage.{some_chars, both_joined, passage_found}
use Rattle.rf_whole.proofs.passages.+jobs_passages.Goals as goal

pub missed_behind-requires-clause-accepted : goal.missed_behind-requires-clause-accepted
missed_behind-requires-clause-accepted g t c =
    let style = seen c.args.setting.now.style.now in
    let costs = g.F.Factory.costs c.args.setting.now.factory.now in
    let w = c.args.setting.now.limit in
    let front = chars c.cut_in_two.result.0.now in
    let between = c.blank_lines_ahead.result in
    passage_accepted costs w style c.args.excerpt.first (chars c.args.excerpt.text.now) front (chars c.cut_in_two.result.1.now) between _ c.cut_in_two.ensures.whole c.cut_in_two.ensures.feeds
    (λ none. some_chars c.cut_in_two.result.1.now c.is_empty.result (search rules) c.is_empty.ensures c.if-is_empty.false none)
    (passage_found (IsPassage costs w style c.args.excerpt.first false front between) _ c.join-first.ensures.first.0 c.in-Ok-Err-Items.is-0)

pub returns-in-Ok-Ok-clause-passage : goal.returns-in-Ok-Ok-clause-passage
returns-in-Ok-Ok-clause-passage g t c =
    let style = seen c.args.setting.now.style.now in
    let costs = g.F.Factory.costs c.args.setting.now.factory.now in
    let w = c.args.setting.now.limit in
    let front = chars c.cut_in_two.result.0.now in
    let rest = chars c.cut_in_two.result.1.now in
    let between = c.blank_lines_ahead.result in
    both_joined costs w style c.args.excerpt.first c.args.excerpt.last (chars c.args.excerpt.text.now) front rest c.args.excerpt.behind between c.in-Ok-Ok.first c.in-Ok-Ok.second c.put_behind.result c.cut_in_two.ensures.whole c.cut_in_two.ensures.feeds
    (λ none. some_chars c.cut_in_two.result.1.now c.is_empty.result (search rules) c.is_empty.ensures c.if-is_empty.false none) c.blank_lines_ahead.ensures
    (passage_found (IsPassage costs w style c.args.excerpt.first false front between) _ c.join-first.ensures.first.0 c.in-Ok-Ok.is-0)
    (passage_found (IsPassage costs w style false c.args.excerpt.last rest c.args.excerpt.behind) _ c.join-first.ensures.second.0 c.in-Ok-Ok.is-1) c.put_behind.ensures.both
