-- What is merged so far, and then the frontier of what is left, is the frontier of the whole.
use Rattle.std.proofs.Common.{◌≡◌, ◌≤◌, ◌+◌, ◌++◌, length}
use Rattle.rf_base_cost.specs.Pareto.{IsFrontier, EachIsValue, pareto, all_rewayed}
use Rattle.rf_frontier.proofs.merging.merge_views.Given as goal

abbrev pub invariant-loop-first : goal.invariant-loop-first
invariant-loop-first g l = record {
  so_far : l.merged ++ pareto (g.F.Factory.costs l.factory) (all_rewayed (g.V.View.seen l.view_of_a) l.first ++ all_rewayed (g.V.View.seen l.view_of_b) l.second)
      ≡ pareto (g.F.Factory.costs l.factory) (all_rewayed (g.V.View.seen l.view_of_a) l.a ++ all_rewayed (g.V.View.seen l.view_of_b) l.b);
  first : IsFrontier (g.F.Factory.costs l.factory) l.first;
  second : IsFrontier (g.F.Factory.costs l.factory) l.second;
  first_values : EachIsValue (g.F.Factory.costs l.factory) l.first;
  second_values : EachIsValue (g.F.Factory.costs l.factory) l.second;
  risen : l.fn.steps ≤ l.steps;
  steps : l.steps + length l.first + length l.second ≤ l.fn.steps + length l.a + length l.b;
}

abbrev pub decreases-loop-first : goal.decreases-loop-first
decreases-loop-first g l = length l.first + length l.second
