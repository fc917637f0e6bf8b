-- There is no layout where neither side has one; else what holds of a side that is never on one line holds.
use Rattle.std.proofs.lemmas.Result.{IfOk-weaker}
use Rattle.rf_outline.proofs.Choices.{nothing_either, never_nothing}
use Rattle.rf_outline.proofs.sides.second_only.Goals as goal

pub returns-in-Nothing-clause-line : goal.returns-in-Nothing-clause-line
returns-in-Nothing-clause-line c = nothing_either c.args.hows.now c.args.hows.now c.args.b c.in-Nothing.is

pub returns-in_default-clause-line : goal.returns-in_default-clause-line
returns-in_default-clause-line c =
    IfOk-weaker c.second_alone.result _ _ (λ line h. never_nothing c.args.hows.now c.second_alone.new.hows c.args.b line h) c.second_alone.ensures.line
