-- The items stay the source's.
use Rattle.std.proofs.Common.{◌≤◌, ◌-◌, length}
use Rattle.std.specs.Str.{chars}
use Rattle.rf_tree.specs.Texts.{AreItemsOf}
use Rattle.rf_tree_tests.proofs.parts.parts_shown.Given as goal

abbrev pub invariant-loop-next : goal.invariant-loop-next
invariant-loop-next l = AreItemsOf (chars l.tree.src.now) l.tree.items.items × (l.next ≤ length l.tree.items.items)

abbrev pub decreases-loop-next : goal.decreases-loop-next
decreases-loop-next l = length l.tree.items.items - l.next
