-- How many nodes are added to a graph.
use Rattle.std.specs.Prelude.{ℕ, ◌≢◌, ◌+◌, ◌*◌, ◌≤◌, List, [], length}
use Rattle.rf_base_document.specs.Graph.{GraphNode}
use Rattle.rf_base_grammar.specs.Token.{Token}
use Rattle.rf_base_style.specs.Table.{StyleView}
use Rattle.rf_base_tree.specs.Trees.{Tree, Forest, forest_items}
use Rattle.rf_base_tree.specs.Slots.{slot_entries}
use Rattle.rf_base_tree.specs.Slots as definition
use Rattle.rf_base_tree.specs.Size.{size_of, entries_items}
use Rattle.rf_tree.specs.Kept.{IsTreeOf}
use Rattle.rf_tree.specs.Slots.{SlotStands}
use Rattle.rf_tree.specs.declared.slotting.Slot.{Slot}
use Rattle.rf_tree.specs.declared.trees.Tree.{Tree as KeptTree}
use Rattle.rf_slot_rows.specs.Growth.{AreKept}

-- at most this many nodes were added
abbrev pub GrowsBy : ℕ → List GraphNode → List GraphNode → Type 0
GrowsBy n old new = length new ≤ length old + n

-- how it grows by a top-level slot that isn't empty, and by a file, of items that the style has settled: at most 200
-- nodes were added for each item and each line end, and 12 for the file
abbrev pub TopGrows : StyleView → KeptTree → Slot → List GraphNode → List GraphNode → Type 0
TopGrows style tree slot old new =
    (ts : List Token) (trees : Forest) (s : definition.Slot Tree) → AreKept style ts → IsTreeOf tree ts trees →
    SlotStands ts tree.nodes slot s → slot_entries s ≢ [] →
    GrowsBy (200 * size_of ts (entries_items (slot_entries s))) old new

abbrev pub FileGrows : StyleView → KeptTree → List GraphNode → List GraphNode → Type 0
FileGrows style tree old new =
    (ts : List Token) (trees : Forest) → AreKept style ts → IsTreeOf tree ts trees →
    GrowsBy (200 * size_of ts (forest_items trees) + 12) old new
