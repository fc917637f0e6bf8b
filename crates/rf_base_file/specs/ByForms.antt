-- A file form by form: its slots as paragraphs, and what is chosen of each by itself.
use Rattle.std.specs.Prelude.{ℕ, false, Option, None, Some, List, [], ◌∷◌, ◌++◌, map, slice_get}
use Rattle.rf_base_document.specs.declared.directions.Dir.{Dir}
use Rattle.rf_base_document.specs.Simple.{simple}
use Rattle.rf_base_optimum.specs.Paragraphs.{Paragraph, chosen_of}
use Rattle.rf_base_grammar.specs.Token.{Token}
use Rattle.rf_base_style.specs.Table.{StyleView}
use Rattle.rf_base_tree.specs.Trees.{Tree, Forest}
use Rattle.rf_base_tree.specs.Slots.{Slot, entries_of}
use Rattle.rf_base_tree.specs.Cut.{slots_of}
use Rattle.rf_base_file.specs.LaidOut.{Objective}
use Rattle.rf_base_file.specs.Rows.{Part}
use Rattle.rf_base_file.specs.FileDocument.{style_doc, top_part}

-- the blank lines before an item, if it is there
abbrev pub blanks_before : Option Token → ℕ
blanks_before None = 0
blanks_before (Some t) = t.blanks

-- the blank lines before the first of these parts; none where there is no part
abbrev pub blanks_ahead : List Token → List Part → ℕ
blanks_ahead ts [] = 0
blanks_ahead ts (p ∷ parts) = blanks_before (slice_get ts p.first)

-- parts as paragraphs: behind each stand the blank lines that stand before the next
unfoldable pub parts_paragraphs : List Token → List Part → List Paragraph
parts_paragraphs ts [] = []
parts_paragraphs ts (p ∷ parts) = record { doc = p.doc; blanks = blanks_ahead ts parts } ∷ parts_paragraphs ts parts

-- the slots of the file of these trees
abbrev pub top_slots : List Token → Forest → List (Slot Tree)
top_slots ts trees = slots_of false (entries_of ts trees)

-- a file as paragraphs: a paragraph for each of its slots
abbrev pub file_paragraphs : StyleView → List Token → Forest → List Paragraph
file_paragraphs style ts trees = parts_paragraphs ts (map (top_part style ts) (top_slots ts trees))

-- what is chosen of the core of each of these slots' documents by itself, one after the other
unfoldable pub chosen_by_slots : {C : Type 0} → Objective C → StyleView → List Token → List (Slot Tree) → List Dir
chosen_by_slots objective style ts [] = []
chosen_by_slots objective style ts (s ∷ slots) =
    chosen_of objective.costs objective.limit (simple (style_doc style ts s) false)
    ++ chosen_by_slots objective style ts slots

-- what is chosen of a file form by form
abbrev pub by_forms : {C : Type 0} → Objective C → StyleView → List Token → Forest → List Dir
by_forms objective style ts trees = chosen_by_slots objective style ts (top_slots ts trees)
