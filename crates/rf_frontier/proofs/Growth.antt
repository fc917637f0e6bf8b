-- Pruning a list as it grows.
use Rattle.std.proofs.Common.{◌≡◌, List, ◌++◌, sym, ◌∙◌, ap}
use Rattle.rf_base_cost.specs.declared.measures.Measure.{Measure}
use Rattle.rf_base_cost.specs.Cost.{Costs, Lawful}
use Rattle.rf_base_cost.specs.Pareto.{pareto, EachIsValue}
use Rattle.rf_base_cost.proofs.Pareto.{pareto_by_parts, frontier_is_pareto, pareto_is_frontier, pareto_values}
