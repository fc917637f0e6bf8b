-- The second side's choices stand behind the direction to it.
use Rattle.rf_outline.proofs.Choices.{right_long}
use Rattle.rf_outline.proofs.sides.second_long.Goals as goal

pub returns-clause-line : goal.returns-clause-line
returns-clause-line c = right_long c.args.hows.now _ c.args.len c.args.how c.in_ok-right.right c.in_ok-right.ensures.in_ways c.in_ok-right.ensures.choices
