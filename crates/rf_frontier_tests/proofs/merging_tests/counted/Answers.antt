-- One measure is a frontier.
use Rattle.std.proofs.Common.{rules}
use Rattle.rf_frontier.proofs.Results.{one_ordered, one_value}
use Rattle.rf_frontier_tests.proofs.merging_tests.counted.Goals as goal

pub one_more-requires-clause-ordered : goal.one_more-requires-clause-ordered
one_more-requires-clause-ordered g c = one_ordered c.one-one.result c.at.result c.one-one.ensures _

pub one_more-requires-clause-values : goal.one_more-requires-clause-values
one_more-requires-clause-values g c = one_value c.one-one.result c.at.result c.one-one.ensures _ (search rules)
