-- What holds of the pieces of cells, and of all that they are put together by, holds of cells.
use Rattle.std.proofs.Common.{◌≡◌, ℕ, zero, suc, ◌≤◌, ◌==◌, if◌then◌else◌, Bool, true, false, List, [], ◌∷◌, ◌++◌, map, take, drop, refl, Option, Some, None, slice_get, arith}
use Rattle.std.specs.Prelude.{⊤}
use Rattle.std.proofs.lemmas.List.Elements.{All-head, All-tail}
use Rattle.std.specs.List.{All, AllByRecursion, slice_range}
use Rattle.rf_base_document.specs.Document as doc
use Rattle.rf_base_document.specs.Document.{Doc, Concat, Nest, Flatten, Align, Choice, Charge, IsOneLine, KeepsTextLimits, plain_text}
use Rattle.rf_base_document.specs.Sequence.{seq}
use Rattle.rf_base_cut.proofs.Halves.{seq_by_parts}
use Rattle.rf_base_file.specs.Rows.{bare_break}
use Rattle.rf_base_file.specs.Shapes.{charged}
use Rattle.rf_base_lines.proofs.KeptShapes.{row_kept}
use Rattle.rf_rows.specs.declared.pieces.Fill.{Fill}
use Rattle.rf_rows.specs.declared.pieces.Fill.TheVariants as fill
use Rattle.rf_rows.specs.declared.pieces.Piece.{Piece}
use Rattle.rf_rows.specs.declared.pieces.Piece.TheVariants as piece
use Rattle.rf_rows.specs.declared.cells.Cell as declared
use Rattle.rf_rows.specs.declared.layouts.Row.{Row}
use Rattle.rf_rows.specs.declared.layouts.Inner.{Inner}
use Rattle.rf_rows.specs.declared.layouts.Inner.TheVariants as inner
use Rattle.rf_rows.specs.declared.layouts.Strip.{Strip}
use Rattle.rf_rows.specs.declared.layouts.Marks.{Marks}
use Rattle.rf_rows.specs.declared.layouts.Layout.{Layout}
use Rattle.rf_rows.specs.declared.layouts.Layouts.{Layouts}
use Rattle.rf_rows.specs.declared.layouts.Layouts.TheVariants.{Bare, One, Two, Three, Unmade}
use Rattle.rf_rows.specs.Layouts.{Filled, strip_of, inner_docs, strip_docs, row_to, row_doc, flattened, unpaid_doc, layout_doc, cell_doc, AreCellLayouts}
use Rattle.rf_rows.specs.Unmade.{list_doc}
use Rattle.rf_rows.specs.Cells.{piece_doc, filled_by, pieces_of, told_cell, cell_to, cell_at, IsBelow, CellsStand}
use Rattle.rf_rows.specs.Nodes.{nothing}

-- what holds of texts and breaks, and of what is put together of documents of which it holds, but for choices
pub record Closed (P : Doc → Type 0) : Type 0 where
  pub text : (s : List ℕ) (len : ℕ) → KeepsTextLimits s len → P (doc.Text s len)
  pub newline : P doc.Newline
  pub hard : P doc.Hard
  pub bare : P bare_break
  pub concat : (a b : Doc) → P a → P b → P (Concat a b)
  pub nest : (a : Doc) → P a → P (Nest 1 a)
  pub align : (a : Doc) → P a → P (Align a)
  pub flatten : (a : Doc) → P a → P (Flatten a)
  pub charge : (k : ℕ) (a : Doc) → k ≤ 1000 → P a → P (Charge k a)

-- where there are several layouts, it also holds of choices between documents of which it holds; and of a list that isn't
-- made
abbrev pub MayChoose : (Doc → Type 0) → Layouts → Type 0
MayChoose P (Two a b) = (x y : Doc) → P x → P y → P (Choice x y)
MayChoose P (Three a b c) = (x y : Doc) → P x → P y → P (Choice x y)
MayChoose P (Unmade u) = P (list_doc u.line)
MayChoose _ _ = ⊤

-- it holds of each of the documents in a row
abbrev pub Each : (Doc → Type 0) → List Doc → Type 0
Each P docs = AllByRecursion P docs

each_apart : (P : Doc → Type 0) (ds es : List Doc) → Each P (ds ++ es) → Each P ds × Each P es
each_apart P [] es h = (tt, h)
each_apart P (d ∷ ds) es h = let rest = each_apart P ds es h.1 in ((h.0, rest.0), rest.1)

each_drop : (P : Doc → Type 0) (n : ℕ) (ds : List Doc) → Each P ds → Each P (drop n ds)
each_drop P zero ds h = h
each_drop P (suc n) [] h = tt
each_drop P (suc n) (d ∷ ds) h = each_drop P n ds h.1

each_take : (P : Doc → Type 0) (n : ℕ) (ds : List Doc) → Each P ds → Each P (take n ds)
each_take P zero ds h = tt
each_take P (suc n) [] h = tt
each_take P (suc n) (d ∷ ds) h = (h.0, each_take P n ds h.1)

pub each_slice : (P : Doc → Type 0) (a b : ℕ) (ds : List Doc) → Each P ds → Each P (slice_range ds a b)
each_slice P a b ds h = each_take P _ (drop a ds) (each_drop P a ds h)

pub nothing_holds : (P : Doc → Type 0) → Closed P → P nothing
nothing_holds P closed = closed.text [] 0 (λ h. absurd (omega (arith, h.1)), omega arith)

pub seq_holds : (P : Doc → Type 0) → Closed P → (ds : List Doc) → Each P ds → P (seq ds)
seq_holds P closed =
    seq_by_parts (λ ds d. Each P ds → P d) (λ h. nothing_holds P closed) (λ d h. h.0)
    (λ d e ds es a b p q h. let parts = each_apart P (d ∷ ds) (e ∷ es) h in closed.concat a b (p parts.0) (q parts.1))

-- pieces
no_feed : IsOneLine (32 ∷ [])
no_feed (zero, less, e) = omega (arith, e)
no_feed (suc k, less, e) = omega (arith, less)

space_holds : (P : Doc → Type 0) → Closed P → P (plain_text (32 ∷ []))
space_holds P closed = closed.text (32 ∷ []) 1 (no_feed, omega arith)

pub piece_holds : (P : Doc → Type 0) → Closed P → (f : ℕ → Doc) (k : ℕ) → ((j : ℕ) → P (f j)) → (g : Fill) (p : Piece) → IsBelow k p → P (piece_doc f g p)
piece_holds P closed f k all g (piece.Text len s) h = closed.text _ len h.0
piece_holds P closed f k all g piece.Space h = space_holds P closed
piece_holds P closed f k all g piece.Newline h = closed.newline
piece_holds P closed f k all g piece.Hard h = closed.hard
piece_holds P closed f k all g piece.BareBreak h = closed.bare
piece_holds P closed f k all fill.Space piece.Gap h = space_holds P closed
piece_holds P closed f k all fill.Newline piece.Gap h = closed.newline
piece_holds P closed f k all fill.Hard piece.Gap h = closed.hard
piece_holds P closed f k all g (piece.Cell j) h = all j

pub pieces_hold : (P : Doc → Type 0) → Closed P → (f : ℕ → Doc) (k : ℕ) → ((j : ℕ) → P (f j)) → (g : Fill) (ps : List Piece) → All (IsBelow k) ps → Each P (map (piece_doc f g) ps)
pieces_hold P closed f k all g [] h = tt
pieces_hold P closed f k all g (p ∷ ps) h =
    (piece_holds P closed f k all g p (All-head (IsBelow k) p ps h), pieces_hold P closed f k all g ps (All-tail (IsBelow k) p ps h))

-- rows and layouts
inner_hold : (P : Doc → Type 0) → Closed P → (f : Row → Doc) → ((row : Row) → P (f row)) → (o : Option Inner) → Each P (inner_docs f o)
inner_hold P closed f all None = tt
inner_hold P closed f all (Some (inner.Aligned row)) = (closed.align (f row) (all row), tt)
inner_hold P closed f all (Some (inner.Nested row)) = (closed.nest (f row) (all row), tt)

pub strip_hold : (P : Doc → Type 0) → Closed P → (r : Filled) (f : Row → Doc) (s : Strip) → ((g : Fill) → Each P (r g)) → ((row : Row) → P (f row)) → Each P (strip_docs r f s)
strip_hold P closed r f s each all =
    row_kept P (slice_range (r fill.Space) s.head s.head_end) (inner_docs f s.inner ++ slice_range (r s.fill) s.tail s.tail_end) (each_slice P s.head s.head_end (r fill.Space) (each fill.Space))
    (row_kept P (inner_docs f s.inner) (slice_range (r s.fill) s.tail s.tail_end) (inner_hold P closed f all s.inner) (each_slice P s.tail s.tail_end (r s.fill) (each s.fill)))

row_to_holds : (P : Doc → Type 0) → Closed P → (d : ℕ) (m : Marks) (n : ℕ) (r : Filled) → ((g : Fill) → Each P (r g)) → (row : Row) → P (row_to d m n r row)
unfolding row_to
row_to_holds P closed zero m n r each row = nothing_holds P closed
row_to_holds P closed (suc d) m n r each row =
    seq_holds P closed (strip_docs r (row_to d m n r) (strip_of m n row)) (strip_hold P closed r (row_to d m n r) (strip_of m n row) each (row_to_holds P closed d m n r each))

pub row_holds : (P : Doc → Type 0) → Closed P → (m : Marks) (n : ℕ) (r : Filled) → ((g : Fill) → Each P (r g)) → (row : Row) → P (row_doc m n r row)
row_holds P closed m n r each row = row_to_holds P closed 3 m n r each row

flattened_holds : (P : Doc → Type 0) → Closed P → (b : Bool) (d : Doc) → P d → P (flattened b d)
flattened_holds P closed true d h = closed.flatten d h
flattened_holds P closed false d h = h

charged_holds : (P : Doc → Type 0) → Closed P → (k : ℕ) (d : Doc) → k ≤ 1000 → P d → P (charged k d)
charged_holds P closed k d few h = cases (k == 0) where
  cases : (b : Bool) → P (if b then d else Charge k d)
  cases true = h
  cases false = closed.charge k d few h

pub unpaid_holds : (P : Doc → Type 0) → Closed P → (m : Marks) (n : ℕ) (r : Filled) (l : Layout) → ((g : Fill) → Each P (r g)) → P (unpaid_doc m n r l)
unpaid_holds P closed m n r l each =
    flattened_holds P closed l.flat (Align (row_doc m n r l.row)) (closed.align (row_doc m n r l.row) (row_holds P closed m n r each l.row))

pub layout_holds : (P : Doc → Type 0) → Closed P → (m : Marks) (n : ℕ) (r : Filled) (l : Layout) → ((g : Fill) → Each P (r g)) → l.charge ≤ 1000 → P (layout_doc m n r l)
layout_holds P closed m n r l each few = charged_holds P closed l.charge (unpaid_doc m n r l) few (unpaid_holds P closed m n r l each)

-- cells
cell_holds : (P : Doc → Type 0) → Closed P → (m : Marks) (n : ℕ) (r : Filled) (ls : Layouts) → ((g : Fill) → Each P (r g)) → AreCellLayouts ls n → MayChoose P ls → P (cell_doc m n r ls)
unfolding cell_doc
cell_holds P closed m n r Bare each h may = row_holds P closed m n r each _
cell_holds P closed m n r (One a) each h may = layout_holds P closed m n r a each h
cell_holds P closed m n r (Two a b) each h may = may (layout_doc m n r a) (layout_doc m n r b) (layout_holds P closed m n r a each h.0) (layout_holds P closed m n r b each h.1)
cell_holds P closed m n r (Three a b c) each h may =
    let others = may (layout_doc m n r b) (layout_doc m n r c) (layout_holds P closed m n r b each h.1.0) (layout_holds P closed m n r c each h.1.1) in
    may (layout_doc m n r a) (Choice (layout_doc m n r b) (layout_doc m n r c)) (layout_holds P closed m n r a each h.0) others
cell_holds P closed m n r (Unmade u) each h may = may

-- it holds of choices where a cell has several layouts
abbrev pub AllMayChoose : (Doc → Type 0) → List declared.Cell → Type 0
AllMayChoose P cs = (k : ℕ) (c : declared.Cell) → slice_get cs k ≡ Some c → MayChoose P c.layouts

told_holds : (P : Doc → Type 0) → Closed P → (f : ℕ → Doc) (ps : List Piece) (cs : List declared.Cell) (k : ℕ) (o : Option declared.Cell) → ((j : ℕ) → P (f j)) → CellsStand ps cs →
    AllMayChoose P cs → slice_get cs k ≡ o → P (told_cell f ps o)
unfolding CellsStand
told_holds P closed f ps cs k None all stand may is = nothing_holds P closed
told_holds P closed f ps cs k (Some c) all stand may is =
    let h = stand k c is in
    cell_holds P closed c.marks c.count (filled_by f (pieces_of ps c)) c.layouts (λ g. pieces_hold P closed f k all g (pieces_of ps c) h.below) h.layouts (may k c is)

cell_to_holds : (P : Doc → Type 0) → Closed P → (d : ℕ) (ps : List Piece) (cs : List declared.Cell) → CellsStand ps cs → AllMayChoose P cs → (k : ℕ) → P (cell_to d ps cs k)
unfolding cell_to
cell_to_holds P closed zero ps cs stand may k = nothing_holds P closed
cell_to_holds P closed (suc d) ps cs stand may k =
    told_holds P closed (cell_to d ps cs) ps cs k (slice_get cs k) (cell_to_holds P closed d ps cs stand may) stand may refl

pub at_holds : (P : Doc → Type 0) → Closed P → (ps : List Piece) (cs : List declared.Cell) → CellsStand ps cs → AllMayChoose P cs → (k : ℕ) → P (cell_at ps cs k)
unfolding cell_at
at_holds P closed ps cs stand may k = cell_to_holds P closed (suc k) ps cs stand may k
