-- Worked examples of rows: a definition that changes its meaning fails here.
use Rattle.std.proofs.Common.{length, ◌≡◌, ℕ, ◌+◌, ◌<◌, Bool, slice_get, zero, suc, List, [], ◌∷◌, Some, None, true, false, codes, refl, arith}
use Rattle.std.specs.Borrow.{Bor}
use Rattle.std.specs.Str.{chars}
use Rattle.rf_base_document.specs.declared.directions.Dir.TheVariants.{Left}
use Rattle.rf_base_document.specs.Document as doc
use Rattle.rf_base_document.specs.Document.{Doc, Concat, Nest, Align, Flatten, Choice, Charge, plain_text, KeepsTextLimits}
use Rattle.rf_base_document.specs.Sequence.{seq, seq_within}
use Rattle.rf_base_file.specs.Rows.{bare_break}
use Rattle.rf_outline.specs.declared.documents.Span.TheVariants as span
use Rattle.rf_outline.specs.declared.facts.Line.{Line}
use Rattle.rf_outline.specs.declared.facts.Line.TheVariants as line
use Rattle.rf_frontier.specs.declared.hows.HowId.{HowId}
use Rattle.rf_rows.specs.declared.pieces.Fill.TheVariants as fill
use Rattle.rf_rows.specs.declared.pieces.Piece.{Piece}
use Rattle.rf_rows.specs.declared.pieces.Piece.TheVariants.{Text, Space, Newline, Hard, BareBreak, Gap, Cell}
use Rattle.rf_rows.specs.declared.cells.Cell as declared
use Rattle.rf_rows.specs.declared.layouts.Row.{Row}
use Rattle.rf_rows.specs.declared.layouts.Row.TheVariants.{Dropped, Hanging, Hung, InLine, InColumn}
use Rattle.rf_rows.specs.declared.layouts.Which.TheVariants.{First, Second, Third}
use Rattle.rf_rows.specs.declared.layouts.Marks.{Marks}
use Rattle.rf_rows.specs.declared.layouts.Layout.{Layout}
use Rattle.rf_rows.specs.declared.layouts.Layouts.{Layouts}
use Rattle.rf_rows.specs.declared.layouts.Layouts.TheVariants.{Bare, One, Two, Three}
use Rattle.rf_rows.specs.declared.nodes.Node.TheVariants as node
use Rattle.rf_rows.specs.Layouts.{row_to, row_doc, layout_doc, cell_doc, AreMarks, AreLayouts}
use Rattle.rf_rows.specs.Cells.{filled_by, cell_to, cell_at, IsBelow}
use Rattle.rf_rows.specs.Nodes.{nothing, layout_at, node_doc, node_docs}
use Rattle.rf_rows.specs.Choiceless.{IsChoiceless, is_single}
use Rattle.rf_rows.specs.Knowing.{chain, mixed, up_to_gap, EndsGaps, line_of_layout}
use Rattle.rf_rows.specs.Telling.{told_piece, run_begins}

-- cells as documents that differ
abbrev g : ℕ → Doc
g k = Nest k doc.Hard

abbrev space : Doc
space = plain_text (codes " ")

-- four slots with a gap between neighbours, of which the first three are headers
abbrev slots : List Piece
slots = Cell 0 ∷ Gap ∷ Cell 1 ∷ Gap ∷ Cell 2 ∷ Gap ∷ Cell 3 ∷ []

abbrev marks : Marks
marks = record { first = 1; second = 2; bodies = 5; fill = fill.Hard }

abbrev row : Row → Doc
row kind = row_doc marks 7 (filled_by g slots) kind

-- all below one another, hanging on the second, and with the headers on one line and below one another
dropped_is : row Dropped
    ≡ Concat (Concat (Concat (g 0) doc.Newline) (Concat (g 1) doc.Newline)) (Concat (Concat (g 2) doc.Newline) (g 3))
unfolding row_to seq seq_within
dropped_is = refl

hanging_is : row Hanging ≡ Concat (Concat (g 0) space) (Align (Concat (Concat (Concat (g 1) doc.Newline) (g 2)) (Concat doc.Newline (g 3))))
unfolding row_to seq seq_within
hanging_is = refl

in_line_is : row InLine ≡ Concat (g 0) (Nest 1 (Concat (Concat (Concat space (g 1)) space) (Concat (Concat (g 2) doc.Hard) (g 3))))
unfolding row_to seq seq_within
in_line_is = refl

in_column_is : row InColumn ≡ Concat (g 0) (Nest 1 (Concat (Concat space (Align (Concat (Concat (g 1) doc.Newline) (g 2)))) (Concat doc.Hard (g 3))))
unfolding row_to seq seq_within
in_column_is = refl

-- a layout is charged around the flat one, and layouts are chosen in their order; bare pieces aren't aligned
abbrev layout : Row → Bool → ℕ → Layout
layout kind flat charge = record { row = kind; flat = flat; charge = charge }

abbrev laid : Layout → Doc
laid l = layout_doc marks 7 (filled_by g slots) l

laid_are : (laid (layout Hanging true 7) ≡ Charge 7 (Flatten (Align (row Hanging)))) × (laid (layout Hung false 0) ≡ Align (row Hung))
laid_are = (refl, refl)

abbrev cell : Layouts → Doc
cell ls = cell_doc marks 7 (filled_by g slots) ls

abbrev a : Layout
a = layout Dropped false 0

abbrev b : Layout
b = layout Hanging false 3

abbrev c : Layout
c = layout Dropped true 0

cells_are : (cell Bare ≡ row Dropped) × (cell (One b) ≡ laid b) × (cell (Two a b) ≡ Choice (laid a) (laid b))
    × (cell (Three a b c) ≡ Choice (laid a) (Choice (laid b) (laid c)))
unfolding cell_doc
cells_are = (refl, refl, refl, refl)

layouts_at : (layout_at (Three a b c) Second ≡ Some b) × (layout_at (Two a b) Third ≡ None) × (layout_at Bare First ≡ None)
layouts_at = (refl, refl, refl)

-- the limits of marks, of layouts and of pieces
marks_stand : AreMarks marks 5 × (AreMarks marks 4 → ⊥)
marks_stand = (record { first = omega arith; second = omega arith; bodies = omega arith }, λ h. absurd (omega (arith, h.bodies)))

layouts_stand : AreLayouts (One (layout Dropped false 1000)) 1 × (AreLayouts (One (layout Dropped false 1001)) 1 → ⊥) × (AreLayouts Bare 1 → ⊥)
layouts_stand = (omega arith, λ h. absurd (omega (arith, h)), λ h. absurd (omega (arith, h)))

pieces_stand : IsBelow 3 (Cell 2) × (IsBelow 3 (Cell 3) → ⊥)
pieces_stand = (omega arith, λ h. absurd (omega (arith, h)))

-- a text has at most 4,194,304 bytes
texts_stand : (s : Bor (List ℕ)) → length s.now ≡ 4194304 → KeepsTextLimits (chars s.now) 0 → IsBelow 0 (Text 0 s)
texts_stand s e keeps = (keeps, omega (arith, e))

long_text : (s : Bor (List ℕ)) → length s.now ≡ 4194305 → IsBelow 0 (Text 0 s) → ⊥
long_text s e h = omega (arith, e, h.1)

-- a cell is put together from its own pieces and the cells before it
abbrev ps : List Piece
ps = Space ∷ Newline ∷ Cell 0 ∷ Gap ∷ BareBreak ∷ []

abbrev bare : ℕ → ℕ → declared.Cell
bare from count = record { from = from; count = count; marks = record { first = count; second = count; bodies = count; fill = fill.Newline }; layouts = Bare }

abbrev cs : List declared.Cell
cs = bare 0 2 ∷ bare 2 3 ∷ []

second_cell : cell_at ps cs 1 ≡ Concat (Concat (Concat space doc.Newline) doc.Newline) bare_break
unfolding cell_at cell_to cell_doc row_to seq seq_within
second_cell = refl

no_cell : cell_at ps cs 2 ≡ nothing
unfolding cell_at cell_to
no_cell = refl

-- nodes
nodes_are : (node_doc ps cs (node.Leaf 3 fill.Hard) ≡ doc.Hard) × (node_doc ps cs (node.Leaf 5 fill.Hard) ≡ nothing) × (node_doc ps cs node.Break ≡ doc.Hard)
nodes_are = (refl, refl, refl)

runs_are : (node_doc ps cs (node.Run 3 5 fill.Space) ≡ Concat space bare_break) × (node_doc ps cs (node.Run 4 5 fill.Space) ≡ nothing) × (node_doc ps cs (node.Run 4 6 fill.Space) ≡ nothing)
unfolding seq seq_within
runs_are = (refl, refl, refl)

abbrev three : declared.Cell
three = record { from = 0; count = 2; marks = record { first = 1; second = 1; bodies = 2; fill = fill.Newline }; layouts = Three a b c }

abbrev others : List declared.Cell
others = three ∷ []

abbrev part : Layout → Doc
part l = layout_doc three.marks 2 (filled_by (cell_at ps others) (Space ∷ Newline ∷ [])) l

layouts_are : (node_doc ps others (node.Others 0) ≡ Choice (part b) (part c)) × (node_doc ps others (node.Laid 0 Second) ≡ part b)
    × (node_doc ps others (node.Unpaid 0 Second) ≡ Align (row_doc three.marks 2 (filled_by (cell_at ps others) (Space ∷ Newline ∷ [])) Hanging))
    × (node_doc ps others (node.Nested 0 Hung) ≡ Nest 1 (row_doc three.marks 2 (filled_by (cell_at ps others) (Space ∷ Newline ∷ [])) Hung))
layouts_are = (refl, refl, refl, refl)

-- pieces filled in three ways, and the last gap
mixed_is : mixed g slots 2 4 fill.Hard ≡ g 0 ∷ space ∷ g 1 ∷ doc.Newline ∷ g 2 ∷ doc.Hard ∷ g 3 ∷ []
mixed_is = refl

chain_is : chain (g 1 ∷ g 2 ∷ []) ≡ Concat (g 1) (Concat (g 2) nothing)
unfolding chain
chain_is = refl

gaps_are : (up_to_gap Gap 4 2 ≡ 5) × (up_to_gap Space 4 2 ≡ 2)
gaps_are = (refl, refl)

last_gap : EndsGaps (Space ∷ Gap ∷ Hard ∷ []) 2 × (EndsGaps (Space ∷ Gap ∷ Hard ∷ []) 3 → ⊥) × (EndsGaps (Space ∷ Gap ∷ Hard ∷ []) 1 → ⊥)
last_gap = (record { before = before; there = there }, λ h. never_hard (h.there 2 refl), λ h. absurd (omega (arith, h.before 1 refl))) where
  before : (i : ℕ) → slice_get (Space ∷ Gap ∷ Hard ∷ []) i ≡ Some Gap → i < 2
  before zero e = cc
  before (suc zero) e = omega arith
  before (suc (suc zero)) e = cc
  before (suc (suc (suc i))) e = cc

  there : (i : ℕ) → 2 ≡ i + 1 → slice_get (Space ∷ Gap ∷ Hard ∷ []) i ≡ Some Gap
  there zero e = cc
  there (suc zero) e = refl
  there (suc (suc i)) e = absurd (omega (arith, e))

  never_hard : Some Hard ≡ Some Gap → ⊥
  never_hard e = cc

-- what is told: a newline is a break but where it is flat, a run begins as its first piece, and a layout is one line where
-- it is flat and free, of all pieces, without a hard newline
told_are : ((told_piece fill.Space false (Some Newline)).begins ≡ true) × ((told_piece fill.Space true (Some Newline)).span ≡ span.Text 1)
    × ((told_piece fill.Hard true (Some Gap)).span ≡ span.Never) × ((told_piece fill.Newline true (Some BareBreak)).begins ≡ true)
told_are = (refl, refl, refl, refl)

begins_are : (run_begins ps 3 5 fill.Newline false ≡ true) × (run_begins ps 3 5 fill.Space false ≡ false) × (run_begins ps 4 5 fill.Newline false ≡ false)
    × (run_begins ps 4 6 fill.Newline false ≡ false)
begins_are = (refl, refl, refl, refl)

-- the documents that a node is one after another: pieces in a row from one up to another, and of all else itself
sequences_are : (node_docs ps [] (node.Run 3 5 fill.Newline) ≡ node_doc ps [] (node.Leaf 3 fill.Newline) ∷ node_doc ps [] (node.Leaf 4 fill.Newline) ∷ [])
    × (node_docs ps [] (node.Run 4 5 fill.Newline) ≡ nothing ∷ []) × (node_docs ps [] (node.Leaf 3 fill.Newline) ≡ doc.Newline ∷ [])
sequences_are = (refl, refl, refl)

abbrev way : HowId
way = record { 0 = 1 }

abbrev long : Line
long = line.Text 9 way

lines_are : (line_of_layout marks (Some c) long ≡ long) × (line_of_layout marks (Some a) long ≡ line.Unsure) × (line_of_layout marks (Some (layout Dropped true 1)) long ≡ line.Unsure)
    × (line_of_layout marks (Some (layout InLine true 0)) long ≡ line.Unsure) × (line_of_layout marks (Some (layout Hung true 0)) long ≡ line.Unsure)
lines_are = (refl, refl, refl, refl, refl)

-- what is laid out in one way has no choice, whatever it is put together of; two layouts are a choice
choiceless_is : IsChoiceless (laid (layout Hanging true 7)) ≡ IsChoiceless (row Hanging)
unfolding IsChoiceless
choiceless_is = refl

choice_is : IsChoiceless (Concat doc.Hard (Choice doc.Hard doc.Newline)) → ⊥
unfolding IsChoiceless
choice_is h = h.1

only_is : IsChoiceless (Nest 2 (doc.Only Left doc.Hard)) → ⊥
unfolding IsChoiceless
only_is h = h

single_are : (is_single (Two a a) ≡ false) × (is_single (Three a a a) ≡ false) × (is_single (One a) ≡ true) × (is_single Bare ≡ true)
single_are = (refl, refl, refl, refl)
