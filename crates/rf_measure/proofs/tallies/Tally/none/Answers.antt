-- Nothing is counted.
use Rattle.rf_measure.proofs.Counting.{none_counted}
use Rattle.rf_measure.proofs.tallies.Tally.none.Goals as goal

pub returns-clause-counts : goal.returns-clause-counts
returns-clause-counts g c = none_counted (g.F.Factory.costs c.args.factory.now) _ _ c.text.ensures c.none.ensures
