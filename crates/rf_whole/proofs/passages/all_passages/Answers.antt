-- Each passage is one more, and at the end they are all; what is refused behind them is the text's refusal.
use Rattle.std.proofs.Common.{rules}
use Rattle.std.proofs.lemmas.Result.{err_from_is_err_and}
use Rattle.std.specs.Str.{chars}
use Rattle.rf_style.specs.StyleOf.{seen}
use Rattle.rf_whole.proofs.Missed.{first_accepted}
use Rattle.rf_whole.proofs.PassageByPassage.{no_chars, some_chars, first_lines, next_joined, all_joined}
use Rattle.rf_whole.proofs.passages.all_passages.Goals as goal

pub returns-in_err-all-in-Ok-clause-missed : goal.returns-in_err-all-in-Ok-clause-missed
returns-in_err-all-in-Ok-clause-missed g c =
    let p = err_from_is_err_and c.from_residual-in_err-all-in-Ok.result c.from_residual-in_err-all-in-Ok.ensures.1 in
    rw (p.1, p.2) (c.in_err-all-in-Ok.ensures.missed (chars c.args.excerpt.text.now))

pub loop-rest-preserved : goal.loop-rest-preserved
loop-rest-preserved g c =
    let style = seen c.args.setting.now.style.now in
    let costs = g.F.Factory.costs c.args.setting.now.factory.now in
    let rest = c.loop-rest.rest.now in
    record {
      utf8 = search rules;
      short = search rules;
      so_far = next_joined costs c.args.setting.now.limit style c.args.excerpt.first c.args.excerpt.last (chars c.args.excerpt.text.now) (chars rest) (chars c.in-Ok.left.now) c.args.excerpt.behind c.loop-rest.all c.in-Ok.more _
          c.loop-rest.invariant.so_far (λ none. some_chars rest c.is_empty.result (search rules) c.is_empty.ensures c.loop-rest-test.true none) c.in-Ok.ensures.passage c.in_ok-all-in-Ok.ensures.both;
    }

pub missed_behind-requires-clause-accepted : goal.missed_behind-requires-clause-accepted
missed_behind-requires-clause-accepted g c =
    let style = seen c.args.setting.now.style.now in
    let costs = g.F.Factory.costs c.args.setting.now.factory.now in
    let rest = c.loop-rest.rest.now in
    first_accepted costs c.args.setting.now.limit style c.args.excerpt.first c.args.excerpt.last (chars c.args.excerpt.text.now) (chars rest) c.args.excerpt.behind c.loop-rest.all c.loop-rest.invariant.so_far
    (λ none. some_chars rest c.is_empty.result (search rules) c.is_empty.ensures c.loop-rest-test.true none)

pub returns-clause-passage : goal.returns-clause-passage
returns-clause-passage g c =
    let style = seen c.args.setting.now.style.now in
    let costs = g.F.Factory.costs c.args.setting.now.factory.now in
    all_joined costs c.args.setting.now.limit style c.args.excerpt.first c.args.excerpt.last (chars c.args.excerpt.text.now) (chars c.loop-rest.rest.now) c.args.excerpt.behind c.loop-rest.all c.loop-rest.invariant.so_far
    (no_chars c.loop-rest.rest.now c.is_empty.result c.is_empty.ensures c.loop-rest-test.false)

pub put_behind-requires-clause-first : goal.put_behind-requires-clause-first
put_behind-requires-clause-first g c =
    first_lines (g.F.Factory.costs c.args.setting.now.factory.now) c.args.setting.now.limit (seen c.args.setting.now.style.now) _ _ _ _ _ _ c.loop-rest.invariant.so_far

pub put_behind-requires-clause-second : goal.put_behind-requires-clause-second
put_behind-requires-clause-second g c =
    first_lines (g.F.Factory.costs c.args.setting.now.factory.now) c.args.setting.now.limit (seen c.args.setting.now.style.now) _ _ _ _ _ _ c.in-Ok.ensures.passage
