-- What holds of the file, and of a slot of its tree.
use Rattle.std.specs.Prelude.{List}
use Rattle.rf_base_grammar.specs.Token.{Token}
use Rattle.rf_base_tree.specs.Trees.{Tree, Forest}
use Rattle.rf_base_tree.specs.Slots as definition
use Rattle.rf_tree.specs.Kept.{IsTreeOf}
use Rattle.rf_tree.specs.Slots.{SlotStands}
use Rattle.rf_tree.specs.declared.slotting.Slot.{Slot}
use Rattle.rf_tree.specs.declared.trees.Tree.{Tree as KeptTree}

-- something holds of the file's items and of its trees; of its items and of a slot of its tree
abbrev pub OfFile : KeptTree → (List Token → Forest → Type 0) → Type 0
OfFile tree P = (ts : List Token) (trees : Forest) → IsTreeOf tree ts trees → P ts trees

abbrev pub OfSlot : KeptTree → Slot → (List Token → definition.Slot Tree → Type 0) → Type 0
OfSlot tree slot P =
    (ts : List Token) (trees : Forest) (s : definition.Slot Tree) → IsTreeOf tree ts trees →
    SlotStands ts tree.nodes slot s → P ts s
