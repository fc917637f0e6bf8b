-- What is kept, and then the frontier of the held measure and of what is left, is the frontier of the whole.
use Rattle.std.proofs.Common.{◌≤◌, ◌+◌, ◌∷◌, length}
use Rattle.rf_base_cost.specs.Pareto.{EachIsValue, pareto, all_raised, all_rewayed}
use Rattle.rf_frontier.proofs.Raises.{Raising}
use Rattle.rf_frontier.proofs.raising.raise_behind.Given as goal

abbrev pub invariant-loop-left : goal.invariant-loop-left
invariant-loop-left g l = record {
  raising : Raising (g.F.Factory.costs l.factory) l.by l.kept l.held (all_rewayed (g.V.View.seen l.view) l.left)
      (pareto (g.F.Factory.costs l.factory) (l.fn.first ∷ all_raised (g.F.Factory.costs l.factory) l.by (all_rewayed (g.V.View.seen l.view) l.others)));
  values : EachIsValue (g.F.Factory.costs l.factory) l.left;
  risen : l.fn.steps ≤ l.steps;
  steps : l.steps + length l.left ≤ l.fn.steps + length l.others;
}

abbrev pub decreases-loop-left : goal.decreases-loop-left
decreases-loop-left g l = length l.left
