-- The words that slots have, as the program tells them.
use Rattle.std.specs.Prelude.{◌≡◌, ℕ, Bool, Option, None, Some, List, [], ◌∷◌, map, is_some}
use Rattle.std.specs.Borrow.{Bor}
use Rattle.std.specs.Option.{option_map}
use Rattle.std.specs.Str.{chars}
use Rattle.rf_base_grammar.specs.Token.{Token}
use Rattle.rf_base_style.specs.Table.{StyleView}
use Rattle.rf_base_tree.specs.Trees.{Tree, Forest}
use Rattle.rf_base_tree.specs.Slots as definition
use Rattle.rf_base_file.specs.Ways.{Piece, word_of}
use Rattle.rf_base_file.specs.FileDocument.{atom_at, tree_piece, slot_piece}
use Rattle.rf_tree.specs.Kept.{IsTreeOf}
use Rattle.rf_tree.specs.Nodes.{UnfoldsTo}
use Rattle.rf_tree.specs.Slots.{NodeSlot, NodeSlotStands, NodeSlotsStand}
use Rattle.rf_tree.specs.declared.nodes.At.{At}
use Rattle.rf_tree.specs.declared.trees.Tree.{Tree as KeptTree}

-- the characters of a word that is told
abbrev pub told : Option (Bor (List ℕ)) → Option (List ℕ)
told word = option_map (λ s. chars s.now) word

-- this is the word of the item, if it is an atom
abbrev pub IsItemWord : KeptTree → ℕ → Option (Bor (List ℕ)) → Type 0
IsItemWord tree item word = (ts : List Token) (trees : Forest) → IsTreeOf tree ts trees → told word ≡ atom_at ts item

-- this is the word of what stands at the node, in each style
abbrev pub IsNodeWord : KeptTree → At → Option (Bor (List ℕ)) → Type 0
IsNodeWord tree at word =
    (style : StyleView) (ts : List Token) (trees : Forest) (t : Tree) → IsTreeOf tree ts trees →
    UnfoldsTo ts tree.nodes at.0 t → told word ≡ (tree_piece style ts t).atom

-- this is the word of the slot, in each style
abbrev pub IsSlotWord : KeptTree → NodeSlot → Option (Bor (List ℕ)) → Type 0
IsSlotWord tree slot word =
    (style : StyleView) (ts : List Token) (trees : Forest) (s : definition.Slot Tree) → IsTreeOf tree ts trees →
    NodeSlotStands ts tree.nodes slot s →
    told word ≡ word_of (slot_piece style ts s).key (slot_piece style ts s).datum

-- something that slots of pieces tell is told of these slots, in each style
abbrev pub OfSlots : KeptTree → List NodeSlot → (List (definition.Slot Piece) → Type 0) → Type 0
OfSlots tree slots P =
    (style : StyleView) (ts : List Token) (trees : Forest) (ss : List (definition.Slot Tree)) → IsTreeOf tree ts trees →
    NodeSlotsStand ts tree.nodes slots ss → P (map (slot_piece style ts) ss)

-- the first of the slots was taken, of which it is told whether it has a datum, and these are behind it, or there are
-- none
abbrev pub TellsDatum : List NodeSlot → Option Bool → List NodeSlot → Type 0
TellsDatum slots None rest = (slots ≡ []) × (rest ≡ [])
TellsDatum slots (Some has) rest = (slot : NodeSlot) × (slots ≡ slot ∷ rest) × (has ≡ is_some slot.datum)
