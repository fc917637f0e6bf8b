-- What the nodes of laid rows stand for.
use Rattle.std.specs.Prelude.{ℕ, ◌+◌, ◌-◌, ◌≤◌, ◌&&◌, nat_le, if◌then◌else◌, Option, None, Some, List, [], ◌∷◌, length, map, slice_get}
use Rattle.std.specs.List.{slice_range}
use Rattle.rf_base_document.specs.Document.{Doc, Hard, Align, Nest, Choice, plain_text}
use Rattle.rf_base_document.specs.Sequence.{seq}
use Rattle.rf_rows.specs.declared.pieces.Fill.{Fill}
use Rattle.rf_rows.specs.declared.pieces.Piece.{Piece}
use Rattle.rf_rows.specs.declared.cells.Cell as declared
use Rattle.rf_rows.specs.declared.layouts.Row.{Row}
use Rattle.rf_rows.specs.declared.layouts.Inner.{Inner}
use Rattle.rf_rows.specs.declared.layouts.Inner.TheVariants as inner
use Rattle.rf_rows.specs.declared.layouts.Strip.{Strip}
use Rattle.rf_rows.specs.declared.layouts.Layout.{Layout}
use Rattle.rf_rows.specs.declared.layouts.Layouts.{Layouts}
use Rattle.rf_rows.specs.declared.layouts.Layouts.TheVariants.{Bare, One, Two, Three, Unmade}
use Rattle.rf_rows.specs.declared.layouts.Which.{Which}
use Rattle.rf_rows.specs.declared.layouts.Which.TheVariants.{First, Second, Third}
use Rattle.rf_rows.specs.declared.nodes.Node.{Node}
use Rattle.rf_rows.specs.declared.nodes.Node.TheVariants.{Leaf, Run, Cell, Others, Laid, Unpaid, Aligned, Nested, Range, Break, Nothing}
use Rattle.rf_rows.specs.Layouts.{Filled, strip_of, strip_docs, row_doc, unpaid_doc, layout_doc}
use Rattle.rf_rows.specs.Cells.{piece_doc, filled_by, pieces_of, cell_at}

-- no text
abbrev pub nothing : Doc
nothing = plain_text []

-- a layout of these, if there is such a one
abbrev pub layout_at : Layouts → Which → Option Layout
layout_at (One a) First = Some a
layout_at (Two a b) First = Some a
layout_at (Two a b) Second = Some b
layout_at (Three a b c) First = Some a
layout_at (Three a b c) Second = Some b
layout_at (Three a b c) Third = Some c
layout_at _ _ = None

-- a piece with this in its gap; a cell isn't told so
abbrev pub leaf_doc : Fill → Option Piece → Doc
leaf_doc fill None = nothing
leaf_doc fill (Some p) = piece_doc (λ k. nothing) fill p

-- all pieces as documents, with this in their gaps
abbrev pub run_docs : List Piece → List declared.Cell → Fill → List Doc
run_docs ps cs fill = map (piece_doc (cell_at ps cs) fill) ps

-- the pieces of a cell as documents, by what stands in their gaps
abbrev pub row_of : List Piece → List declared.Cell → declared.Cell → Filled
row_of ps cs c = filled_by (cell_at ps cs) (pieces_of ps c)

-- the parts of a row stand in order among so many pieces
pub record StripStands (s : Strip) (count : ℕ) : Type 0 where
  pub head : s.head ≤ s.head_end
  pub between : s.head_end ≤ s.tail
  pub tail : s.tail ≤ s.tail_end
  pub within : s.tail_end ≤ count

-- how many documents a row has
abbrev pub inner_length : Option Inner → ℕ
inner_length None = 0
inner_length (Some inner) = 1

abbrev pub before_tail : Strip → ℕ
before_tail s = (s.head_end - s.head) + inner_length s.inner

abbrev pub strip_length : Strip → ℕ
strip_length s = before_tail s + (s.tail_end - s.tail)

-- what something told of a cell is, and no text where there is none
abbrev pub of_cell : Option declared.Cell → (declared.Cell → Doc) → Doc
of_cell None f = nothing
of_cell (Some c) f = f c

-- the same of a layout
abbrev pub of_layout : Option Layout → (Layout → Doc) → Doc
of_layout None f = nothing
of_layout (Some l) f = f l

-- the node of a row that stands as one in another row of cell k
abbrev pub inner_node : ℕ → Inner → Node
inner_node k (inner.Aligned row) = Aligned k row
inner_node k (inner.Nested row) = Nested k row

-- the second and the third of three layouts
abbrev pub others_doc : (Layout → Doc) → Layouts → Doc
others_doc f (Three a b c) = Choice (f b) (f c)
others_doc f _ = nothing

-- the documents of a row of a cell
abbrev pub docs_of : List Piece → List declared.Cell → declared.Cell → Row → List Doc
docs_of ps cs c row =
    strip_docs (row_of ps cs c) (row_doc c.marks c.count (row_of ps cs c)) (strip_of c.marks c.count row)

-- the documents from one up to another in sequence; of fewer than two, and past the end, no text
abbrev pub range_doc : List Doc → ℕ → ℕ → Doc
range_doc docs from to =
    if nat_le (from + 2) to && nat_le to (length docs) then seq (slice_range docs from to) else nothing

-- the same documents, one after another
abbrev pub range_docs : List Doc → ℕ → ℕ → List Doc
range_docs docs from to =
    if nat_le (from + 2) to && nat_le to (length docs) then slice_range docs from to else nothing ∷ []

abbrev pub of_cell_docs : Option declared.Cell → (declared.Cell → List Doc) → List Doc
of_cell_docs None f = nothing ∷ []
of_cell_docs (Some c) f = f c

-- the cell that the node is of, if any
abbrev pub cell_of : Node → Option ℕ
cell_of (Leaf e fill) = None
cell_of (Run from to fill) = None
cell_of (Cell k) = Some k
cell_of (Others k) = Some k
cell_of (Laid k which) = Some k
cell_of (Unpaid k which) = Some k
cell_of (Aligned k row) = Some k
cell_of (Nested k row) = Some k
cell_of (Range k row from to) = Some k
cell_of Break = None
cell_of Nothing = None

-- what the nodes of these pieces and cells stand for
abbrev pub node_doc : List Piece → List declared.Cell → Node → Doc
node_doc ps cs (Leaf e fill) = leaf_doc fill (slice_get ps e)
node_doc ps cs (Run from to fill) = range_doc (run_docs ps cs fill) from to
node_doc ps cs (Cell k) = cell_at ps cs k
node_doc ps cs (Others k) =
    of_cell (slice_get cs k) (λ c. others_doc (layout_doc c.marks c.count (row_of ps cs c)) c.layouts)
node_doc ps cs (Laid k which) =
    of_cell (slice_get cs k) (λ c. of_layout (layout_at c.layouts which) (layout_doc c.marks c.count (row_of ps cs c)))
node_doc ps cs (Unpaid k which) =
    of_cell (slice_get cs k) (λ c. of_layout (layout_at c.layouts which) (unpaid_doc c.marks c.count (row_of ps cs c)))
node_doc ps cs (Aligned k row) =
    of_cell (slice_get cs k) (λ c. Align (row_doc c.marks c.count (row_of ps cs c) row))
node_doc ps cs (Nested k row) =
    of_cell (slice_get cs k) (λ c. Nest 1 (row_doc c.marks c.count (row_of ps cs c) row))
node_doc ps cs (Range k row from to) = of_cell (slice_get cs k) (λ c. range_doc (docs_of ps cs c row) from to)
node_doc ps cs Break = Hard
node_doc ps cs Nothing = nothing

-- the documents that a node is told to be one after another: those of several pieces, and of a row
abbrev pub node_docs : List Piece → List declared.Cell → Node → List Doc
node_docs ps cs (Run from to fill) = range_docs (run_docs ps cs fill) from to
node_docs ps cs (Range k row from to) =
    of_cell_docs (slice_get cs k) (λ c. range_docs (docs_of ps cs c row) from to)
node_docs ps cs n = node_doc ps cs n ∷ []
