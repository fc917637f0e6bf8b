-- Slots of a file in a row as paragraphs, with blank lines behind the last.
use Rattle.std.specs.Prelude.{ℕ, List, [], ◌∷◌, map, slice_get}
use Rattle.rf_base_optimum.specs.Paragraphs.{Paragraph}
use Rattle.rf_base_grammar.specs.Token.{Token}
use Rattle.rf_base_style.specs.Table.{StyleView}
use Rattle.rf_base_tree.specs.Trees.{Tree, Forest}
use Rattle.rf_base_tree.specs.Slots.{Slot}
use Rattle.rf_base_file.specs.Rows.{Part}
use Rattle.rf_base_file.specs.FileDocument.{top_part}
use Rattle.rf_base_file.specs.LaidOut.{kept}
use Rattle.rf_base_file.specs.ByForms.{blanks_before, top_slots}

-- the blank lines before the first of these parts, or so many where there is no part
abbrev pub blanks_or : ℕ → List Token → List Part → ℕ
blanks_or n ts [] = n
blanks_or n ts (p ∷ parts) = blanks_before (slice_get ts p.first)

-- parts as paragraphs: behind each stand the blank lines that stand before the next, and so many behind the last
unfoldable pub group_paragraphs : ℕ → List Token → List Part → List Paragraph
group_paragraphs n ts [] = []
group_paragraphs n ts (p ∷ parts) = record { doc = p.doc; blanks = blanks_or n ts parts } ∷ group_paragraphs n ts parts

-- the same of slots of a file
abbrev pub slots_paragraphs : StyleView → List Token → ℕ → List (Slot Tree) → List Paragraph
slots_paragraphs style ts n slots = group_paragraphs n ts (map (top_part style ts) slots)

-- the same of the slots of all these trees, where the items are as a layout in this style keeps them
abbrev pub trees_paragraphs : StyleView → List Token → ℕ → Forest → List Paragraph
trees_paragraphs style ts n trees = slots_paragraphs style (kept style ts) n (top_slots (kept style ts) trees)
