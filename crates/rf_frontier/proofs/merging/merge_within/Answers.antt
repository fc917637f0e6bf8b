-- One measure is a frontier.
use Rattle.rf_frontier.proofs.Results.{one_ordered, one_value}
use Rattle.rf_frontier.proofs.merging.merge_within.Goals as goal

pub merge_vectors-requires-clause-second : goal.merge_vectors-requires-clause-second
merge_vectors-requires-clause-second g c = one_ordered c.one.result c.args.k c.one.ensures (g.F.Factory.costs c.args.factory.now)

pub merge_vectors-requires-clause-second_values : goal.merge_vectors-requires-clause-second_values
merge_vectors-requires-clause-second_values g c = one_value c.one.result c.args.k c.one.ensures (g.F.Factory.costs c.args.factory.now) c.requires.second_value
