-- The slots so far go on with those ahead.
use Rattle.std.proofs.Common.{◌≡◌, ◌++◌, length, map}
use Rattle.rf_tree.specs.Slots.{kept_slot}
use Rattle.rf_tree.specs.Ahead.{node_slots, slots_ahead, IsCursor}
use Rattle.rf_tree.proofs.slotting.cut.Given as goal

abbrev pub invariant-loop-slot : goal.invariant-loop-slot
invariant-loop-slot l = record {
  cursor : IsCursor l.ahead;
  so_far : map kept_slot l.slots.items ++ slots_ahead l.ahead ≡ node_slots l.tree l.in_list l.entries;
}

abbrev pub decreases-loop-slot : goal.decreases-loop-slot
decreases-loop-slot l = length (slots_ahead l.ahead)
