-- What the lines are together.
use Rattle.std.proofs.Common.{Err, ap, inl, inr, refl}
use Rattle.rf_whole.proofs.TooLong.{told_long}
use Rattle.rf_whole.proofs.Together.{lines-append, sums_past, lines_value, lines_same, chars_pushed}
use Rattle.rf_whole.proofs.lines.together.Goals as goal

pub returns-in_err-characters-clause-too_long : goal.returns-in_err-characters-clause-too_long
returns-in_err-characters-clause-too_long g c = λ is w ps qs h k.
    sums_past (g.F.Factory.costs c.args.factory.now) w ps qs _ _ _ _ _ _ _ _ _ _ _ _ h k (inl (c.in_err-characters.ensures.too_long (ap Err (told_long _ _ c.from_residual.ensures.1 is))))

pub returns-in_err-weight-clause-too_long : goal.returns-in_err-weight-clause-too_long
returns-in_err-weight-clause-too_long g c = λ is w ps qs h k.
    sums_past (g.F.Factory.costs c.args.factory.now) w ps qs _ _ _ _ _ _ _ _ _ _ _ _ h k (inr (c.in_err-weight.ensures.too_long (ap Err (told_long _ _ c.from_residual-in_err-weight.ensures.1 is))))

pub add-cost-requires-clause-first : goal.add-cost-requires-clause-first
add-cost-requires-clause-first g c =
    let h = c.requires.first in
    lines_value (g.F.Factory.costs c.args.factory.now) (g.met.F.Factory.lawful c.args.factory.now) h.0 h.1 _ _ _ _ _ _ h.2

pub add-cost-requires-clause-second : goal.add-cost-requires-clause-second
add-cost-requires-clause-second g c =
    let h = c.requires.second in
    lines_value (g.F.Factory.costs c.args.factory.now) (g.met.F.Factory.lawful c.args.factory.now) h.0 h.1 _ _ _ _ _ _ h.2

pub returns-clause-lines : goal.returns-clause-lines
returns-clause-lines g c = λ w ps qs h k.
    let costs = g.F.Factory.costs c.args.factory.now in
    lines_same costs w _ _ _ _ _ _ _ _ _ _ _ _ _ c.in_ok-append.ensures.items
    (chars_pushed c.args.first.text c.add_text.new.text c.args.second.text _ c.in_ok-add_text.ensures refl)
    c.add-cost.ensures c.both_hold-within.ensures c.in_ok-characters.ensures.sum c.in_ok-weight.ensures.sum
    (lines-append costs (g.met.F.Factory.lawful c.args.factory.now) w ps qs _ _ _ _ _ _ _ _ _ _ _ _ h k
    (rw c.in_ok-characters.ensures.sum at c.in_ok-characters.ensures.within) (rw c.in_ok-weight.ensures.sum at c.in_ok-weight.ensures.within))
