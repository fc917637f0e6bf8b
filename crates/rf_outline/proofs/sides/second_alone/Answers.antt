-- Neither side is on one line, or nothing is known.
use Rattle.std.proofs.Common.{inl, inr}
use Rattle.rf_outline.proofs.Choices.{never_either, never_none}
use Rattle.rf_outline.proofs.sides.second_alone.Goals as goal

pub returns-in-Nothing-clause-line : goal.returns-in-Nothing-clause-line
returns-in-Nothing-clause-line c =
    elim c.in-Nothing.is [
      | inl e ↦ never_none c.args.hows.now c.args.hows.now c.args.b e
      | inr e ↦ never_either c.args.hows.now c.args.hows.now c.args.b e
    ]
