-- Where no gap is filled, the line stays; elsewhere a gap is a break.
use Rattle.std.proofs.Common.{false, ap, inl, inr, arith}
use Rattle.rf_rows.specs.declared.pieces.Fill.{Fill}
use Rattle.rf_rows.proofs.Mixed.{unfilled_line, broken_line, stays}
use Rattle.rf_rows.proofs.known_layouts.loose_line.Goals as goal

pub returns-then-pieces-second : goal.returns-then-pieces-second
returns-then-pieces-second c = λ ways f qs order h gaps.
    unfilled_line ways f qs c.args.second c.args.bodies c.args.pieces.gaps c.args.fill false c.args.pieces.loose order gaps c.if-pieces-second.true h

pub returns-then-pieces-bodies : goal.returns-then-pieces-bodies
returns-then-pieces-bodies c = λ ways f qs order h gaps.
    broken_line f qs c.args.second c.args.bodies c.args.pieces.gaps c.args.fill gaps c.if-pieces-second.false
    (λ past. absurd (omega (arith, past, c.if-pieces-bodies.true)))

pub returns-in-Newline : goal.returns-in-Newline
returns-in-Newline c = λ ways f qs order h gaps.
    broken_line f qs c.args.second c.args.bodies c.args.pieces.gaps c.args.fill gaps c.if-pieces-second.false
    (λ past. elim c.in-Newline.is [
      | inl e ↦ ap (λ (x : Fill). stays x false) e
      | inr e ↦ ap (λ (x : Fill). stays x false) e
    ])
