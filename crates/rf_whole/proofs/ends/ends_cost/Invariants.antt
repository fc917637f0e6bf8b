-- The sum with what is left costs what all of the line ends do.
use Rattle.std.proofs.Common.{◌≡◌, replicate}
use Rattle.rf_base_document.specs.Render.{Break}
use Rattle.rf_base_cost.specs.Cost.{IsValue, cost_after}
use Rattle.rf_whole.proofs.ends.ends_cost.Given as goal

abbrev pub invariant-loop-left : goal.invariant-loop-left
invariant-loop-left g l = record {
  value : IsValue (g.F.Factory.costs l.factory) l.sum;
  so_far : cost_after (g.F.Factory.costs l.factory) l.sum (replicate l.left (Break 0)) ≡ cost_after (g.F.Factory.costs l.factory) l.fn.cost (replicate l.fn.count (Break 0));
}

abbrev pub decreases-loop-left : goal.decreases-loop-left
decreases-loop-left g l = l.left
