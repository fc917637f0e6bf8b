-- What is made so far is a frontier of values, and ways that were there stay.
use Rattle.rf_base_cost.specs.Pareto.{IsFrontier, EachIsValue}
use Rattle.rf_cost.specs.Factories.{squares}
use Rattle.rf_frontier.specs.Ways.{KeepsWays}
use Rattle.rf_frontier.specs.Frontiers.{BelongTo}
use Rattle.rf_bench.proofs.frontiers.comb.Given as goal

abbrev pub invariant-loop-k : goal.invariant-loop-k
invariant-loop-k g l = record {
  ordered : IsFrontier (squares 80) l.f;
  values : EachIsValue (squares 80) l.f;
  belongs : BelongTo l.hows l.f;
  older : KeepsWays l.fn.hows l.hows;
}
