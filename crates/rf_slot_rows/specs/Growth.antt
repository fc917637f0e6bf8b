-- How much rows grow, by the nodes that they take where they become a graph.
use Rattle.std.specs.Prelude.{ℕ, ◌≡◌, ◌≢◌, ◌+◌, ◌*◌, ◌≤◌, Option, List, [], ◌∷◌, length}
use Rattle.std.specs.List.{AllByRecursion}
use Rattle.rf_base_grammar.specs.Token.{Token}
use Rattle.rf_base_grammar.specs.declared.items.Item.{Item}
use Rattle.rf_base_style.specs.Table.{StyleView}
use Rattle.rf_base_tree.specs.Trees.{Tree, Listed, Forest, tree_items, forest_items}
use Rattle.rf_base_tree.specs.Slots.{Entry, slot_entries, perhaps}
use Rattle.rf_base_tree.specs.Slots as definition
use Rattle.rf_base_tree.specs.Size.{size_of, entries_items, slots_entries}
use Rattle.rf_base_file.specs.LaidOut.{kept}
use Rattle.rf_tree.specs.Kept.{IsTreeOf}
use Rattle.rf_tree.specs.Nodes.{UnfoldsTo}
use Rattle.rf_tree.specs.Slots.{NodeSlot, NodesStand, NodeStands, NodeSlotStands, NodeSlotsStand, SlotStands}
use Rattle.rf_tree.specs.declared.slotting.Slot.{Slot}
use Rattle.rf_tree.specs.declared.nodes.At.{At}
use Rattle.rf_tree.specs.declared.trees.Tree.{Tree as KeptTree}
use Rattle.rf_ways.specs.declared.places.Brackets.{Brackets}
use Rattle.rf_rows.specs.Sizes.{rows_size, Grows}
use Rattle.rf_rows.specs.declared.rows.Rows.{Rows}

-- no item has more than 9 blank lines before it, so that a gap has at most ten parts
abbrev pub FewBlanks : KeptTree → Type 0
FewBlanks tree = AllByRecursion (λ (i : Item). i.blanks ≤ 9) tree.items.items

-- the items are such as a layout in this style keeps
abbrev pub AreKept : StyleView → List Token → Type 0
AreKept style ts = (read : List Token) × (ts ≡ kept style read)

-- they grew by at most 200 for each of so many items and line ends, less what is spared
abbrev pub GrowsLess : ℕ → ℕ → Rows → Rows → Type 0
GrowsLess spare size old new = rows_size new + spare ≤ rows_size old + 200 * size

-- how they grow by an item: a text for each line, a break behind each but the last, and what joins them
abbrev pub ItemGrows : KeptTree → ℕ → Rows → Rows → Type 0
ItemGrows tree item old new =
    (ts : List Token) (trees : Forest) → IsTreeOf tree ts trees → Grows (8 * size_of ts (item ∷ []) + 24) old new

-- how they grow by what stands at a node, of which this is spared: 140 without the gap before it and 100 with it
abbrev pub NodeGrows : ℕ → KeptTree → At → Rows → Rows → Type 0
NodeGrows spare tree at old new =
    FewBlanks tree → (ts : List Token) (trees : Forest) (t : Tree) → IsTreeOf tree ts trees →
    UnfoldsTo ts tree.nodes at.0 t → GrowsLess spare (size_of ts (tree_items t)) old new

-- by entries, each with the gap before it; what each spares pays for its slot
abbrev pub EntriesGrow : List Token → List (Entry Tree) → Rows → Rows → Type 0
EntriesGrow ts es old new = GrowsLess (100 * length es) (size_of ts (entries_items es)) old new

-- the same by the nodes of entries, and by a node that may be there
abbrev pub NodesGrow : KeptTree → List At → Rows → Rows → Type 0
NodesGrow tree ats old new =
    FewBlanks tree → (ts : List Token) (trees : Forest) (es : List (Entry Tree)) → IsTreeOf tree ts trees →
    NodesStand ts tree.nodes ats es → EntriesGrow ts es old new

abbrev pub MayGrow : KeptTree → Option At → Rows → Rows → Type 0
MayGrow tree at old new =
    FewBlanks tree → (ts : List Token) (trees : Forest) (e : Option (Entry Tree)) → IsTreeOf tree ts trees →
    NodeStands ts tree.nodes at e → EntriesGrow ts (perhaps e []) old new

-- how they grow by a prefix or a skip, and by the comments and the datum behind it, of which this is spared
abbrev pub PrefixedGrows : KeptTree → ℕ → List At → At → Rows → Rows → Type 0
PrefixedGrows tree item lead inner old new =
    FewBlanks tree → (ts : List Token) (trees : Forest) (es : List (Entry Tree)) (t : Tree) → IsTreeOf tree ts trees →
    NodesStand ts tree.nodes lead es → UnfoldsTo ts tree.nodes inner.0 t →
    GrowsLess 140 (size_of ts (item ∷ []) + size_of ts (entries_items es) + size_of ts (tree_items t)) old new

abbrev pub LeadGrows : ℕ → KeptTree → List At → At → Rows → Rows → Type 0
LeadGrows spare tree lead inner old new =
    FewBlanks tree → (ts : List Token) (trees : Forest) (es : List (Entry Tree)) (t : Tree) → IsTreeOf tree ts trees →
    NodesStand ts tree.nodes lead es → UnfoldsTo ts tree.nodes inner.0 t →
    GrowsLess spare (size_of ts (entries_items es) + size_of ts (tree_items t)) old new

-- how they grow by a slot: this much for the slot itself, less what its entries spare
abbrev pub SlotGrows : ℕ → KeptTree → NodeSlot → Rows → Rows → Type 0
SlotGrows more tree slot old new =
    FewBlanks tree → (ts : List Token) (trees : Forest) (s : definition.Slot Tree) → IsTreeOf tree ts trees →
    NodeSlotStands ts tree.nodes slot s →
    rows_size new + 100 * length (slot_entries s)
    ≤ rows_size old + 200 * size_of ts (entries_items (slot_entries s)) + more

-- by slots: 28 for each, 40 for the gap before it, and this much more, less what their entries spare
abbrev pub SlotsAdd : ℕ → List Token → List (definition.Slot Tree) → Rows → Rows → Type 0
SlotsAdd more ts ss old new =
    rows_size new + 100 * length (slots_entries ss)
    ≤ rows_size old + 200 * size_of ts (entries_items (slots_entries ss)) + 68 * length ss + more

abbrev pub SlotsGrow : ℕ → KeptTree → List NodeSlot → Rows → Rows → Type 0
SlotsGrow more tree slots old new =
    FewBlanks tree → (ts : List Token) (trees : Forest) (ss : List (definition.Slot Tree)) → IsTreeOf tree ts trees →
    NodeSlotsStand ts tree.nodes slots ss → SlotsAdd more ts ss old new

-- by the list at a node, between these brackets
abbrev pub ListGrows : KeptTree → At → Brackets → Rows → Rows → Type 0
ListGrows tree at list old new =
    FewBlanks tree → (ts : List Token) (trees : Forest) (f : Forest) → IsTreeOf tree ts trees →
    UnfoldsTo ts tree.nodes at.0 (Listed list.opener f list.closer) →
    GrowsLess 140 (size_of ts (tree_items (Listed list.opener f list.closer))) old new

-- by a top-level slot that isn't empty, of items that the style has settled: at most 200 for each item and each line
-- end, less 52
abbrev pub TopGrows : StyleView → KeptTree → Slot → Rows → Rows → Type 0
TopGrows style tree slot old new =
    (ts : List Token) (trees : Forest) (s : definition.Slot Tree) → AreKept style ts → IsTreeOf tree ts trees →
    SlotStands ts tree.nodes slot s → slot_entries s ≢ [] →
    GrowsLess 52 (size_of ts (entries_items (slot_entries s))) old new

-- by the slots of a file, where there are no more of them than entries
abbrev pub TopsGrow : KeptTree → List NodeSlot → Rows → Rows → Type 0
TopsGrow tree slots old new =
    FewBlanks tree → (ts : List Token) (trees : Forest) (ss : List (definition.Slot Tree)) → IsTreeOf tree ts trees →
    NodeSlotsStand ts tree.nodes slots ss → length ss ≤ length (slots_entries ss) →
    Grows (200 * size_of ts (entries_items (slots_entries ss)) + 8) old new

-- by a file, of items that the style has settled: at most 200 for each item and each line end, and 8
abbrev pub FileGrows : StyleView → KeptTree → Rows → Rows → Type 0
FileGrows style tree old new =
    (ts : List Token) (trees : Forest) → AreKept style ts → IsTreeOf tree ts trees →
    Grows (200 * size_of ts (forest_items trees) + 8) old new
