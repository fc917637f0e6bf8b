-- The frontier is the measure's.
use Rattle.rf_resolve.proofs.Leaves.{leaf_is}
use Rattle.rf_resolve.proofs.knowing.leaf_frontier.Goals as goal

pub returns-in_ok-at_most_one-in-Some : goal.returns-in_ok-at_most_one-in-Some
returns-in_ok-at_most_one-in-Some g c = leaf_is _ _ _ c.args.hows.now c.args.key c.in-Some.m _ c.in_ok-at_most_one-in-Some.ensures c.in-Some.ensures.measure
