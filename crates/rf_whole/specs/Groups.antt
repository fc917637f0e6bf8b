-- Slots of a file in a row as paragraphs, and how the program keeps them.
use Rattle.std.specs.Prelude.{◌≤◌, ◌^◌, length, List}
use Rattle.std.specs.List.{AllByRecursion}
use Rattle.rf_base_document.specs.Document.{IsDocument}
use Rattle.rf_base_optimum.specs.MostPieces.{most_pieces}
use Rattle.rf_base_grammar.specs.Token.{Token}
use Rattle.rf_base_style.specs.Table.{StyleView}
use Rattle.rf_base_tree.specs.Trees.{Tree, Forest}
use Rattle.rf_base_tree.specs.Slots.{Slot}
use Rattle.rf_base_file.specs.FileDocument.{style_doc}
use Rattle.rf_base_file.specs.ByForms.{top_slots}
use Rattle.rf_tree.specs.Kept.{IsTreeOf}
use Rattle.rf_tree.specs.Slots.{NodeSlot, SlotStands, NodeSlotsStand, NodeSlotsBelow}
use Rattle.rf_tree.specs.declared.slotting.Slot.{Slot as KeptSlot}
use Rattle.rf_tree.specs.declared.trees.Tree.{Tree as KeptTree}

-- the program's slots are these slots of the tree, in a row, and the document of each keeps the limits of documents,
-- and no resolution of it has more than 2^27 pieces
pub record IsRow (style : StyleView) (tree : KeptTree) (kept : List NodeSlot) (ts : List Token) (trees : Forest)
    (slots : List (Slot Tree)) : Type 0 where
  pub tree_of : IsTreeOf tree ts trees
  pub stand : NodeSlotsStand ts tree.nodes kept slots
  pub below : NodeSlotsBelow (length tree.nodes) kept
  pub documents : AllByRecursion (λ s. IsDocument (style_doc style ts s)) slots
  pub few : AllByRecursion (λ s. most_pieces (style_doc style ts s) ≤ 2 ^ 27) slots

-- the program's slots are some in a row
abbrev pub AreInRow : StyleView → KeptTree → List NodeSlot → Type 0
AreInRow style tree kept = (ts : List Token) × (trees : Forest) × (slots : List (Slot Tree))
    × IsRow style tree kept ts trees slots

-- the program's slot is one of the tree, and no resolution of its document has more than 2^27 pieces
abbrev pub HasFewPieces : StyleView → KeptTree → KeptSlot → Type 0
HasFewPieces style tree kept =
    (ts : List Token) × (trees : Forest) × (s : Slot Tree) × IsTreeOf tree ts trees
    × SlotStands ts tree.nodes kept s
    × (most_pieces (style_doc style ts s) ≤ 2 ^ 27)

-- the program's tree has these trees of a file, and the document of each of their slots keeps the limits of documents,
-- and no resolution of it has more than 2^27 pieces
pub record HasTops (style : StyleView) (tree : KeptTree) (ts : List Token) (trees : Forest) : Type 0 where
  pub tree_of : IsTreeOf tree ts trees
  pub documents : AllByRecursion (λ s. IsDocument (style_doc style ts s)) (top_slots ts trees)
  pub few : AllByRecursion (λ s. most_pieces (style_doc style ts s) ≤ 2 ^ 27) (top_slots ts trees)
