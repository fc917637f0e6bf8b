-- The layouts of a cell: rows of the same pieces, whose gaps each of them fills by itself.
use Rattle.std.specs.Prelude.{ℕ, zero, suc, ◌≤◌, Bool, true, false, Option, None, Some, List, [], ◌∷◌, ◌++◌, codes}
use Rattle.std.specs.List.{slice_range}
use Rattle.rf_base_document.specs.Document.{Doc, Newline, Hard, Nest, Align, Flatten, Choice, plain_text, IsDocument}
use Rattle.rf_base_document.specs.Sequence.{seq}
use Rattle.rf_base_file.specs.Shapes.{charged}
use Rattle.rf_rows.specs.declared.pieces.Fill.{Fill}
use Rattle.rf_rows.specs.declared.pieces.Fill.TheVariants as fill
use Rattle.rf_rows.specs.declared.layouts.Row.{Row}
use Rattle.rf_rows.specs.declared.layouts.Row.TheVariants.{Dropped, Hanging, Hung, InLine, Lines, InColumn, Columns, Column}
use Rattle.rf_rows.specs.declared.layouts.Inner.{Inner}
use Rattle.rf_rows.specs.declared.layouts.Inner.TheVariants.{Aligned, Nested}
use Rattle.rf_rows.specs.declared.layouts.Strip.{Strip}
use Rattle.rf_rows.specs.declared.layouts.Marks.{Marks}
use Rattle.rf_rows.specs.declared.layouts.Layout.{Layout}
use Rattle.rf_rows.specs.declared.layouts.Layouts.{Layouts}
use Rattle.rf_rows.specs.declared.layouts.Layouts.TheVariants.{Bare, One, Two, Three, Unmade}
use Rattle.rf_ways.specs.NodeDocuments.{node_doc}

-- what stands in a gap
abbrev pub fill_doc : Fill → Doc
fill_doc fill.Space = plain_text (codes " ")
fill_doc fill.Newline = Newline
fill_doc fill.Hard = Hard

-- pieces as documents, by what stands in their gaps
abbrev pub Filled : Type 0
Filled = Fill → List Doc

-- the pieces from one up to another, filled so
abbrev pub filled : ℕ → ℕ → Fill → Strip
filled from to f = record { head = from; head_end = from; inner = None; tail = from; tail_end = to; fill = f }

-- the pieces from one up to another with spaces before a row that is the rest of so many pieces
abbrev pub before : ℕ → ℕ → Inner → ℕ → Strip
before from to inner count =
    record { head = from; head_end = to; inner = Some inner; tail = count; tail_end = count; fill = fill.Newline }

-- what a row is made of, of so many pieces
abbrev pub strip_of : Marks → ℕ → Row → Strip
strip_of m count Dropped = filled 0 count fill.Newline
strip_of m count Hanging = before 0 m.second (Aligned Hung) count
strip_of m count Hung = filled m.second count fill.Newline
strip_of m count InLine = before 0 m.first (Nested Lines) count
strip_of m count Lines =
    record { head = m.first; head_end = m.bodies; inner = None; tail = m.bodies; tail_end = count; fill = m.fill }
strip_of m count InColumn = before 0 m.first (Nested Columns) count
strip_of m count Columns =
    record {
      head = m.first;
      head_end = m.second;
      inner = Some (Aligned Column);
      tail = m.bodies;
      tail_end = count;
      fill = m.fill;
    }
strip_of m count Column = filled m.second m.bodies fill.Newline

-- the other row as it stands in a row, where rows are told by f
abbrev pub inner_doc : (Row → Doc) → Inner → Doc
inner_doc f (Aligned row) = Align (f row)
inner_doc f (Nested row) = Nest 1 (f row)

abbrev pub inner_docs : (Row → Doc) → Option Inner → List Doc
inner_docs f None = []
inner_docs f (Some inner) = inner_doc f inner ∷ []

-- the documents of a row
abbrev pub strip_docs : Filled → (Row → Doc) → Strip → List Doc
strip_docs r f s =
    slice_range (r fill.Space) s.head s.head_end ++ (inner_docs f s.inner ++ slice_range (r s.fill) s.tail s.tail_end)

-- a row, in which rows stand at most depth deep
unfoldable pub row_to : ℕ → Marks → ℕ → Filled → Row → Doc
row_to zero m count r row = plain_text []
row_to (suc depth) m count r row = seq (strip_docs r (row_to depth m count r) (strip_of m count row))

-- a row: three rows stand in one another at most
abbrev pub row_doc : Marks → ℕ → Filled → Row → Doc
row_doc m count r row = row_to 3 m count r row

abbrev pub flattened : Bool → Doc → Doc
flattened true d = Flatten d
flattened false d = d

-- a layout before it is charged, and with its charge
abbrev pub unpaid_doc : Marks → ℕ → Filled → Layout → Doc
unpaid_doc m count r l = flattened l.flat (Align (row_doc m count r l.row))

abbrev pub layout_doc : Marks → ℕ → Filled → Layout → Doc
layout_doc m count r l = charged l.charge (unpaid_doc m count r l)

-- a cell of so many pieces; a list that isn't made of pieces is the document of its node
unfoldable pub cell_doc : Marks → ℕ → Filled → Layouts → Doc
cell_doc m count r Bare = row_doc m count r Dropped
cell_doc m count r (One a) = layout_doc m count r a
cell_doc m count r (Two a b) = Choice (layout_doc m count r a) (layout_doc m count r b)
cell_doc m count r (Three a b c) =
    Choice (layout_doc m count r a) (Choice (layout_doc m count r b) (layout_doc m count r c))
cell_doc m count r (Unmade u) = node_doc u.line.placed

-- the slots stand in order among so many pieces
pub record AreMarks (m : Marks) (count : ℕ) : Type 0 where
  pub first : m.first ≤ m.second
  pub second : m.second ≤ m.bodies
  pub bodies : m.bodies ≤ count

-- each layout of these pieces is charged for at most 1,000, and pieces in a row as they are, are two at least
abbrev pub AreLayouts : Layouts → ℕ → Type 0
AreLayouts Bare count = 2 ≤ count
AreLayouts (One a) count = a.charge ≤ 1000
AreLayouts (Two a b) count = (a.charge ≤ 1000) × (b.charge ≤ 1000)
AreLayouts (Three a b c) count = (a.charge ≤ 1000) × ((b.charge ≤ 1000) × (c.charge ≤ 1000))
AreLayouts (Unmade u) count = ⊥

-- they are the layouts of so many pieces, or the document of a list that isn't made keeps the limits
abbrev pub AreCellLayouts : Layouts → ℕ → Type 0
AreCellLayouts Bare count = AreLayouts Bare count
AreCellLayouts (One a) count = AreLayouts (One a) count
AreCellLayouts (Two a b) count = AreLayouts (Two a b) count
AreCellLayouts (Three a b c) count = AreLayouts (Three a b c) count
AreCellLayouts (Unmade u) count = IsDocument (node_doc u.line.placed)
