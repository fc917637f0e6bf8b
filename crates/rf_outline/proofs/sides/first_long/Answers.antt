-- The first side's choices stand behind the direction to it.
use Rattle.rf_outline.proofs.Choices.{left_long}
use Rattle.rf_outline.proofs.sides.first_long.Goals as goal

pub returns-clause-line : goal.returns-clause-line
returns-clause-line c = left_long c.args.hows.now _ c.args.len c.args.how c.in_ok-left.left c.args.b c.if-not-may_go_left.ensures c.in_ok-left.ensures.in_ways c.in_ok-left.ensures.choices
