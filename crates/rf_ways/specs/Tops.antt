-- Slots of a tree.
use Rattle.std.specs.Prelude.{◌<◌, List, length}
use Rattle.std.specs.List.{AllByRecursion}
use Rattle.rf_base_grammar.specs.Token.{Token}
use Rattle.rf_base_tree.specs.Trees.{Tree, Forest}
use Rattle.rf_base_tree.specs.Slots as definition
use Rattle.rf_tree.specs.Kept.{IsTreeOf}
use Rattle.rf_tree.specs.Slots.{SlotStands, slot_nodes}
use Rattle.rf_tree.specs.declared.slotting.Slot.{Slot}
use Rattle.rf_tree.specs.declared.trees.Tree.{Tree as KeptTree}

-- the slot is one of the tree: its nodes, unfolded, are the trees of some slot
abbrev pub IsTop : KeptTree → Slot → Type 0
IsTop tree slot =
    (ts : List Token) × (trees : Forest) × (s : definition.Slot Tree) × IsTreeOf tree ts trees
    × SlotStands ts tree.nodes slot s × AllByRecursion (λ at. at.0 < length tree.nodes) (slot_nodes slot)
