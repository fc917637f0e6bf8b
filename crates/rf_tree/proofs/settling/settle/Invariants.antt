-- The items so far are settled, and the rest is to be.
use Rattle.std.proofs.Common.{◌≡◌, true, ◌++◌, take, drop}
use Rattle.rf_tree.specs.Settled.{settled_items}
use Rattle.rf_tree.proofs.settling.settle.Given as goal

abbrev pub invariant-loop-item : goal.invariant-loop-item
invariant-loop-item l =
    settled_items true l.max l.initial.items ≡ take l.item-index l.items ++ settled_items l.bare l.max (drop l.item-index l.items)
