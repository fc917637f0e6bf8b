-- What was put at the end, and then what is to come, is the whole; each turn does more of what the limit leaves.
use Rattle.std.proofs.Common.{◌≡◌, ◌≤◌, ◌+◌, ◌*◌, ◌-◌, ◌++◌, length}
use Rattle.rf_frontier.specs.Pending.{choices_to_come, EachHasChoices}
use Rattle.rf_frontier.proofs.unfolding.unfold_pending.Given as goal

abbrev pub invariant-loop-next : goal.invariant-loop-next
invariant-loop-next l = record {
  same : l.into.items ++ choices_to_come l.hows l.pending.items ≡ l.fn.into.items ++ choices_to_come l.hows l.fn.ways.items;
  each : EachHasChoices l.hows l.pending.items;
  room : length l.into.items + length l.pending.items ≤ l.limit;
}

abbrev pub decreases-loop-next : goal.decreases-loop-next
decreases-loop-next l = 2 * l.limit - (2 * length l.into.items + length l.pending.items)
