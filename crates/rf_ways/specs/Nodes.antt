-- Nodes of a tree as the program keeps it, and what they are parts of.
use Rattle.std.specs.Prelude.{◌≡◌, Bool, List, ◌∷◌, map}
use Rattle.rf_base_grammar.specs.Token.{Token}
use Rattle.rf_base_style.specs.Table.{StyleView}
use Rattle.rf_base_tree.specs.Trees.{Tree, Listed, Forest}
use Rattle.rf_base_tree.specs.Slots as definition
use Rattle.rf_base_file.specs.declared.shapes.Role.{Role}
use Rattle.rf_base_file.specs.declared.shapes.Roles.{Roles}
use Rattle.rf_base_file.specs.Rows.{Part, slot_parts}
use Rattle.rf_base_file.specs.Ways.{part_in, slot_in, slots_in}
use Rattle.rf_base_file.specs.FileDocument.{tree_piece, slot_piece}
use Rattle.rf_tree.specs.Kept.{IsTreeOf}
use Rattle.rf_tree.specs.Nodes.{UnfoldsTo}
use Rattle.rf_tree.specs.Slots.{NodeSlot, NodesStand, NodeSlotStands, NodeSlotsStand}
use Rattle.rf_tree.specs.declared.nodes.At.{At}
use Rattle.rf_tree.specs.declared.trees.Tree.{Tree as KeptTree}
use Rattle.rf_ways.specs.declared.places.Brackets.{Brackets}

-- the node, unfolded, is some tree
abbrev pub IsNode : KeptTree → At → Type 0
IsNode tree at =
    (ts : List Token) × (trees : Forest) × (t : Tree) × IsTreeOf tree ts trees × UnfoldsTo ts tree.nodes at.0 t

-- the node is a list between these brackets; the nodes of slots are those of some slots
abbrev pub IsList : KeptTree → At → Brackets → Type 0
IsList tree at list =
    (ts : List Token) × (trees : Forest) × (f : Forest) × IsTreeOf tree ts trees
    × UnfoldsTo ts tree.nodes at.0 (Listed list.opener f list.closer)

abbrev pub AreSlots : KeptTree → List NodeSlot → Type 0
AreSlots tree slots =
    (ts : List Token) × (trees : Forest) × (ss : List (definition.Slot Tree)) × IsTreeOf tree ts trees
    × NodeSlotsStand ts tree.nodes slots ss

-- the same of a slot, and of the nodes of some entries
abbrev pub IsSlot : KeptTree → NodeSlot → Type 0
IsSlot tree slot =
    (ts : List Token) × (trees : Forest) × (s : definition.Slot Tree) × IsTreeOf tree ts trees
    × NodeSlotStands ts tree.nodes slot s

abbrev pub AreNodes : KeptTree → List At → Type 0
AreNodes tree ats =
    (ts : List Token) × (trees : Forest) × (es : List (definition.Entry Tree)) × IsTreeOf tree ts trees
    × NodesStand ts tree.nodes ats es

-- the first of the slots was taken, of which this holds, and these are behind it
abbrev pub FirstTaken : List NodeSlot → List NodeSlot → (NodeSlot → Type 0) → Type 0
FirstTaken slots rest P = (slot : NodeSlot) × (slots ≡ slot ∷ rest) × P slot

-- a tree, a slot and slots as parts in a place
abbrev pub node_in : StyleView → List Token → Bool → Role → Tree → Part
node_in style ts quoted role t = part_in quoted role (tree_piece style ts t)

abbrev pub slot_of : StyleView → List Token → Bool → Role → definition.Slot Tree → definition.Slot Part
slot_of style ts quoted role s = slot_in quoted role (slot_piece style ts s)

abbrev pub parts_of : StyleView → List Token → Bool → Roles → List (definition.Slot Tree) → List Part
parts_of style ts quoted roles ss = slot_parts ts (slots_in quoted roles (map (slot_piece style ts) ss))
