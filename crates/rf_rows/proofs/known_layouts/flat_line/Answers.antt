-- A hard newline is a break; where no gap is one, the line stays.
use Rattle.std.proofs.Common.{true, sym, ap, subst, inl, inr}
use Rattle.rf_outline.specs.declared.facts.Line.TheVariants.{Nothing}
use Rattle.rf_outline.specs.Known.{LineHolds}
use Rattle.rf_rows.specs.declared.pieces.Fill.{Fill}
use Rattle.rf_rows.specs.Knowing.{chain, mixed}
use Rattle.rf_rows.proofs.Mixed.{hard_line, soft_line, few_gaps_line, stays}
use Rattle.rf_rows.proofs.known_layouts.flat_line.Goals as goal

pub returns-then-pieces-bodies : goal.returns-then-pieces-bodies
returns-then-pieces-bodies c = λ ways f qs second order h gaps.
    few_gaps_line ways f qs second c.args.bodies c.args.pieces.gaps c.args.fill c.args.pieces.flat order gaps c.if-pieces-bodies.true h

pub returns-in-Hard : goal.returns-in-Hard
returns-in-Hard c = λ ways f qs second order h gaps.
    subst (λ (x : Fill). LineHolds ways (chain (mixed f qs second c.args.bodies x)) true Nothing) (sym c.in-Hard.is)
    (hard_line ways f qs second c.args.bodies c.args.pieces.gaps gaps c.if-pieces-bodies.false)

pub returns-in-Space : goal.returns-in-Space
returns-in-Space c = λ ways f qs second order h gaps.
    soft_line ways f qs second c.args.bodies c.args.fill c.args.pieces.flat order
    (elim c.in-Space.is [
      | inl e ↦ ap (λ (x : Fill). stays x true) e
      | inr e ↦ ap (λ (x : Fill). stays x true) e
    ]) h
