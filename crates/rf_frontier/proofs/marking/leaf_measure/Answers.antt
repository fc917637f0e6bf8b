-- The way of the measure is the first.
use Rattle.std.proofs.Common.{List, ap}
use Rattle.rf_base_document.specs.declared.directions.Dir.{Dir}
use Rattle.rf_base_cut.specs.OneLine.{measured}
use Rattle.rf_frontier.proofs.marking.leaf_measure.Goals as goal

pub returns-clause-measure : goal.returns-clause-measure
returns-clause-measure g c = ap (λ (choices : List Dir). measured c.args.last c.args.cost choices) c.first-how.ensures.choices
