-- The last columns never rise, and the costs are values.
use Rattle.std.proofs.Common.{rules}
use Rattle.rf_base_cost.specs.Pareto.{NoneFurther, NeverRises, EachIsValue}
use Rattle.rf_frontier_tests.proofs.row_tests.pruning_keeps_the_earliest_of_equals.Goals as goal

pub pruned-requires : goal.pruned-requires
unfolding NoneFurther NeverRises EachIsValue
pruned-requires g c = search rules
