-- The documents of nodes keep the limits.
use Rattle.std.proofs.Common.{◌≡◌, ℕ, zero, suc, ◌+◌, ◌≤◌, ◌&&◌, nat_le, if◌then◌else◌, Bool, true, false, List, [], ◌∷◌, length, refl, subst, Option, Some, None, slice_get, arith}
use Rattle.std.proofs.lemmas.List.Elements.{All-head, All-tail}
use Rattle.std.specs.List.{All, slice_range}
use Rattle.rf_base_document.specs.Document.{Doc, Nest, Align, IsDocument}
use Rattle.rf_base_document.specs.Sequence.{seq}
use Rattle.rf_rows.specs.declared.pieces.Fill.{Fill}
use Rattle.rf_rows.specs.declared.pieces.Piece.{Piece}
use Rattle.rf_rows.specs.declared.cells.Cell as declared
use Rattle.rf_rows.specs.declared.layouts.Layout.{Layout}
use Rattle.rf_rows.specs.declared.layouts.Layouts.{Layouts}
use Rattle.rf_rows.specs.declared.layouts.Layouts.TheVariants.{Bare, One, Two, Three, Unmade}
use Rattle.rf_rows.specs.declared.layouts.Which.{Which}
use Rattle.rf_rows.specs.declared.layouts.Which.TheVariants.{First, Second, Third}
use Rattle.rf_rows.specs.declared.nodes.Node.{Node}
use Rattle.rf_rows.specs.declared.nodes.Node.TheVariants.{Leaf, Run, Cell, Others, Laid, Unpaid, Aligned, Nested, Range, Break, Nothing}
use Rattle.rf_rows.specs.Layouts.{strip_of, row_doc, unpaid_doc, layout_doc, AreCellLayouts}
use Rattle.rf_rows.specs.Cells.{cell_at, IsBelow, pieces_of, CellStands, CellsStand}
use Rattle.rf_rows.specs.Nodes.{run_docs, nothing, leaf_doc, layout_at, of_cell, of_layout, others_doc, row_of, docs_of, range_doc, node_doc}
use Rattle.rf_rows.proofs.Closed.{Closed, MayChoose, Each, each_slice, nothing_holds, seq_holds, piece_holds, pieces_hold, strip_hold, row_holds, unpaid_holds, layout_holds, at_holds}

-- to keep the limits is closed, under choices too
pub keeps : Closed IsDocument
unfolding IsDocument
keeps = record {
  text = λ s len h. h;
  newline = tt;
  hard = tt;
  bare = tt;
  concat = λ a b h k. (h, k);
  nest = λ a h. (omega arith, h);
  align = λ a h. h;
  flatten = λ a h. h;
  charge = λ k a few h. (few, h);
}

may_choose : (ls : Layouts) (n : ℕ) → AreCellLayouts ls n → MayChoose IsDocument ls
unfolding IsDocument
may_choose (Two a b) n are = λ x y h k. (h, k)
may_choose (Three a b c) n are = λ x y h k. (h, k)
may_choose (Unmade u) n are = are
may_choose _ n are = tt

nothing_document : IsDocument nothing
nothing_document = nothing_holds IsDocument keeps

pub at_document : (ps : List Piece) (cs : List declared.Cell) → CellsStand ps cs → (k : ℕ) → IsDocument (cell_at ps cs k)
unfolding CellsStand
at_document ps cs stand k = at_holds IsDocument keeps ps cs stand (λ j c is. may_choose c.layouts c.count (stand j c is).layouts) k

same_some : {A : Type 0} {x y : A} → Some x ≡ Some y → x ≡ y
same_some e = cc

-- nodes
each_row : (ps : List Piece) (cs : List declared.Cell) (k : ℕ) (c : declared.Cell) → CellsStand ps cs → CellStands ps k c → (g : Fill) → Each IsDocument (row_of ps cs c g)
each_row ps cs k c stand h g = pieces_hold IsDocument keeps (cell_at ps cs) k (at_document ps cs stand) g (pieces_of ps c) h.below

found_document : (ps : List Piece) (cs : List declared.Cell) (k : ℕ) (f : declared.Cell → Doc) (o : Option declared.Cell) → CellsStand ps cs → slice_get cs k ≡ o →
    ((c : declared.Cell) → CellStands ps k c → IsDocument (f c)) → IsDocument (of_cell o f)
unfolding CellsStand
found_document ps cs k f None stand is all = nothing_document
found_document ps cs k f (Some c) stand is all = all c (stand k c is)

at_layout : (ls : Layouts) (n : ℕ) (w : Which) (f : Layout → Doc) → AreCellLayouts ls n → ((l : Layout) → l.charge ≤ 1000 → IsDocument (f l)) → IsDocument (of_layout (layout_at ls w) f)
at_layout (One a) n First f h all = all a h
at_layout (Two a b) n First f h all = all a h.0
at_layout (Two a b) n Second f h all = all b h.1
at_layout (Three a b c) n First f h all = all a h.0
at_layout (Three a b c) n Second f h all = all b h.1.0
at_layout (Three a b c) n Third f h all = all c h.1.1
at_layout _ n _ f h all = nothing_document

others_document : (ls : Layouts) (n : ℕ) (f : Layout → Doc) → AreCellLayouts ls n → ((l : Layout) → l.charge ≤ 1000 → IsDocument (f l)) → IsDocument (others_doc f ls)
unfolding IsDocument
others_document (Three a b c) n f h all = (all b h.1.0, all c h.1.1)
others_document _ n f h all = nothing_document

range_document : (docs : List Doc) (from to : ℕ) → Each IsDocument docs → IsDocument (range_doc docs from to)
range_document docs from to each = cases (nat_le (from + 2) to && nat_le to (length docs)) where
  cases : (b : Bool) → IsDocument (if b then seq (slice_range docs from to) else nothing)
  cases true = seq_holds IsDocument keeps (slice_range docs from to) (each_slice IsDocument from to docs each)
  cases false = nothing_document

pub All-found : {A : Type 0} (P : A → Type 0) (xs : List A) (i : ℕ) (x : A) → All P xs → slice_get xs i ≡ Some x → P x
All-found P [] i x h is = cc
All-found P (y ∷ xs) zero x h is = subst P (same_some is) (All-head P y xs h)
All-found P (y ∷ xs) (suc i) x h is = All-found P xs i x (All-tail P y xs h) is

leaf_document : (ps : List Piece) (k : ℕ) (g : Fill) (o : Option Piece) → ((p : Piece) → o ≡ Some p → IsBelow k p) → IsDocument (leaf_doc g o)
leaf_document ps k g None h = nothing_document
leaf_document ps k g (Some p) h = piece_holds IsDocument keeps (λ j. nothing) k (λ j. nothing_document) g p (h p refl)

pub node_document : (ps : List Piece) (cs : List declared.Cell) → CellsStand ps cs → All (IsBelow (length cs)) ps → (n : Node) → IsDocument (node_doc ps cs n)
unfolding IsDocument
node_document ps cs stand below (Leaf e g) =
    leaf_document ps (length cs) g (slice_get ps e) (λ p is. All-found (IsBelow (length cs)) ps e p below is)
node_document ps cs stand below (Run from to g) =
    range_document (run_docs ps cs g) from to (pieces_hold IsDocument keeps (cell_at ps cs) (length cs) (at_document ps cs stand) g ps below)
node_document ps cs stand below (Cell k) = at_document ps cs stand k
node_document ps cs stand below (Others k) =
    found_document ps cs k (λ c. others_doc (layout_doc c.marks c.count (row_of ps cs c)) c.layouts) (slice_get cs k) stand refl
    (λ c h. others_document c.layouts c.count (layout_doc c.marks c.count (row_of ps cs c)) h.layouts (λ l few. layout_holds IsDocument keeps c.marks c.count (row_of ps cs c) l (each_row ps cs k c stand h) few))
node_document ps cs stand below (Laid k w) =
    found_document ps cs k (λ c. of_layout (layout_at c.layouts w) (layout_doc c.marks c.count (row_of ps cs c))) (slice_get cs k) stand refl
    (λ c h. at_layout c.layouts c.count w (layout_doc c.marks c.count (row_of ps cs c)) h.layouts (λ l few. layout_holds IsDocument keeps c.marks c.count (row_of ps cs c) l (each_row ps cs k c stand h) few))
node_document ps cs stand below (Unpaid k w) =
    found_document ps cs k (λ c. of_layout (layout_at c.layouts w) (unpaid_doc c.marks c.count (row_of ps cs c))) (slice_get cs k) stand refl
    (λ c h. at_layout c.layouts c.count w (unpaid_doc c.marks c.count (row_of ps cs c)) h.layouts (λ l few. unpaid_holds IsDocument keeps c.marks c.count (row_of ps cs c) l (each_row ps cs k c stand h)))
node_document ps cs stand below (Aligned k row) =
    found_document ps cs k (λ c. Align (row_doc c.marks c.count (row_of ps cs c) row)) (slice_get cs k) stand refl
    (λ c h. row_holds IsDocument keeps c.marks c.count (row_of ps cs c) (each_row ps cs k c stand h) row)
node_document ps cs stand below (Nested k row) =
    found_document ps cs k (λ c. Nest 1 (row_doc c.marks c.count (row_of ps cs c) row)) (slice_get cs k) stand refl
    (λ c h. (omega arith, row_holds IsDocument keeps c.marks c.count (row_of ps cs c) (each_row ps cs k c stand h) row))
node_document ps cs stand below (Range k row from to) =
    found_document ps cs k (λ c. range_doc (docs_of ps cs c row) from to) (slice_get cs k) stand refl
    (λ c h. range_document (docs_of ps cs c row) from to
    (strip_hold IsDocument keeps (row_of ps cs c) (row_doc c.marks c.count (row_of ps cs c)) (strip_of c.marks c.count row) (each_row ps cs k c stand h)
    (row_holds IsDocument keeps c.marks c.count (row_of ps cs c) (each_row ps cs k c stand h))))
node_document ps cs stand below Break = tt
node_document ps cs stand below Nothing = nothing_document
