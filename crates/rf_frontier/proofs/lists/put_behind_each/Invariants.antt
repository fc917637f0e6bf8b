-- The measures that were passed have the choices before their own, and the others are what they were.
use Rattle.std.proofs.Common.{◌≤◌, ◌+◌, ◌-◌, length}
use Rattle.rf_frontier.proofs.Behind.{Rewaying}
use Rattle.rf_frontier.proofs.lists.put_behind_each.Given as goal

abbrev pub invariant-loop-at : goal.invariant-loop-at
invariant-loop-at g l = record {
  rewaying : Rewaying l.fn.hows l.hows l.before l.fn.measures l.measures l.at;
  in_list : l.at ≤ length l.measures;
  few_more : length l.hows ≤ length l.fn.hows + l.at;
}

abbrev pub decreases-loop-at : goal.decreases-loop-at
decreases-loop-at g l = length l.measures - l.at
