-- What is left of the frontier comes to the same with k behind it.
use Rattle.std.proofs.Common.{◌≡◌, ◌≤◌, ◌+◌, [], ◌∷◌, ◌++◌, length}
use Rattle.rf_base_cost.specs.Pareto.{IsFrontier, EachIsValue, pareto}
use Rattle.rf_frontier.proofs.merging.merge_one.Given as goal

abbrev pub invariant-loop-all : goal.invariant-loop-all
invariant-loop-all g l = record {
  so_far : pareto (g.F.Factory.costs l.factory) (l.all ++ l.k ∷ []) ≡ pareto (g.F.Factory.costs l.factory) (l.fn.all ++ l.k ∷ []);
  first : IsFrontier (g.F.Factory.costs l.factory) l.all;
  first_values : EachIsValue (g.F.Factory.costs l.factory) l.all;
  risen : l.fn.steps ≤ l.steps;
  steps : l.steps + length l.all ≤ l.fn.steps + length l.fn.all;
}

abbrev pub decreases-loop-all : goal.decreases-loop-all
decreases-loop-all g l = length l.all
