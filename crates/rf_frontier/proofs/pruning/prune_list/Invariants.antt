-- The held measure and those behind it are the frontier of what was seen of the list, from its end.
use Rattle.std.proofs.Common.{◌≤◌, ◌<◌, ◌+◌, length}
use Rattle.rf_frontier.proofs.Prunes.{Pruning}
use Rattle.rf_frontier.proofs.pruning.prune_list.Given as goal

abbrev pub invariant-loop-at : goal.invariant-loop-at
invariant-loop-at g l = record {
  pruning : Pruning (g.F.Factory.costs l.factory) l.held l.behind.items l.list l.at;
  in_list : l.at < length l.list;
  risen : l.fn.steps ≤ l.steps;
  steps : l.steps + l.at ≤ l.fn.steps + length l.list;
}

abbrev pub decreases-loop-at : goal.decreases-loop-at
decreases-loop-at g l = l.at
