-- What the front is refused for, or what stands behind it, the source is.
use Rattle.std.proofs.Common.{[], sym, subst, rules}
use Rattle.std.specs.Str.{chars}
use Rattle.rf_base_grammar.specs.Itemised.{kinds_of}
use Rattle.rf_whole.specs.Passages.{IsMissed}
use Rattle.rf_whole.proofs.RefusedFronts.{source_refused, source_missed}
use Rattle.rf_whole.proofs.early.missed_early.Goals as goal

pub returns-in-Ok : goal.returns-in-Ok
returns-in-Ok c =
    let front = c.in-Some.ensures in
    source_refused c.args.src.now c.cut_behind_item.result.0.now c.cut_behind_item.result.1.now c.utf8.src
    (search rules) c.cut_behind_item.ensures.whole c.in-Some.refusal.0 c.in-Some.refusal.1 front
    (c.in-Ok.ensures.accepted (search rules) (kinds_of [] front.tokens) front.before)

pub returns-in-Err : goal.returns-in-Err
returns-in-Err c =
    let front = c.in-Some.ensures in
    subst (λ miss. IsMissed (chars c.args.src.now) miss) (sym c.from.ensures)
    (source_missed c.args.src.now c.cut_behind_item.result.0.now c.cut_behind_item.result.1.now c.utf8.src
    (search rules) c.cut_behind_item.ensures.whole c.in-Some.refusal.0 c.in-Some.refusal.1 front c.in-Err.fault
    (c.in-Err.ensures.refused (kinds_of [] front.tokens) front.before))
