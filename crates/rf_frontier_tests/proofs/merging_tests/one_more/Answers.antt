-- One measure is a frontier.
use Rattle.rf_frontier.proofs.Results.{one_ordered, one_value}
use Rattle.rf_frontier_tests.proofs.merging_tests.one_more.Goals as goal

pub merge_ways-requires-clause-second : goal.merge_ways-requires-clause-second
merge_ways-requires-clause-second g c = one_ordered c.one.result c.args.k c.one.ensures (g.F.Factory.costs c.args.factory.now)

pub merge_ways-requires-clause-second_values : goal.merge_ways-requires-clause-second_values
merge_ways-requires-clause-second_values g c = one_value c.one.result c.args.k c.one.ensures (g.F.Factory.costs c.args.factory.now) c.requires.value
