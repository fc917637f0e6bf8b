-- The documents of a row from one up to another, where they are pieces in a row.
use Rattle.std.proofs.Common.{◌≡◌, ℕ, ◌+◌, ◌-◌, ◌≤◌, ◌<◌, Option, None, Some, slice_get, List, ◌++◌, length, map, take, drop, refl, sym, ◌∙◌, ap, ap₂, arith}
use Rattle.std.proofs.lemmas.List.{drop-take, length-map, length-drop, take-append-le, drop-append-le}
use Rattle.std.proofs.Math.Seq.{take-take, drop-drop, drop-append-add}
use Rattle.std.specs.List.{slice_range}
use Rattle.rf_base_document.specs.Document.{Doc}
use Rattle.rf_rows.specs.declared.pieces.Fill.{Fill}
use Rattle.rf_rows.specs.declared.pieces.Fill.TheVariants as fill
use Rattle.rf_rows.specs.declared.pieces.Piece.{Piece}
use Rattle.rf_rows.specs.declared.cells.Cell as declared
use Rattle.rf_rows.specs.declared.layouts.Row.{Row}
use Rattle.rf_rows.specs.declared.layouts.Strip.{Strip}
use Rattle.rf_rows.specs.declared.layouts.Inner.{Inner}
use Rattle.rf_rows.specs.Layouts.{inner_docs, strip_of, strip_docs, row_doc}
use Rattle.rf_rows.specs.Cells.{piece_doc, pieces_of, cell_at, CellsStand}
use Rattle.rf_rows.specs.Nodes.{run_docs, row_of, docs_of, StripStands, inner_length, before_tail, strip_length}
use Rattle.rf_rows.proofs.Slices.{mapped_slice, length_sliced}
use Rattle.rf_rows.proofs.Strips.{length_inner}
use Rattle.rf_rows.proofs.Opened.{strip_is, cell_strip, cell_length, count_of}

-- slices of lists in a row, and of slices
slice_front : {A : Type 0} (xs ys : List A) (a b : ℕ) → a ≤ b → b ≤ length xs → slice_range (xs ++ ys) a b ≡ slice_range xs a b
slice_front xs ys a b order within =
    ap (take (b - a)) (drop-append-le a xs ys (omega (arith, order, within)))
    ∙ take-append-le (b - a) (drop a xs) ys (omega (arith, order, within, length-drop a xs))

slice_back : {A : Type 0} (xs ys : List A) (n a b i j : ℕ) → n ≡ length xs → i ≡ n + a → j ≡ n + b → slice_range (xs ++ ys) i j ≡ slice_range ys a b
slice_back xs ys n a b i j is at end =
    ap₂ (λ (p q : ℕ). take p (drop q (xs ++ ys))) (less n a b i j at end) (at ∙ ap (λ (m : ℕ). m + a) is) ∙ ap (take (b - a)) (drop-append-add xs ys a)
  where
    less : (n a b i j : ℕ) → i ≡ n + a → j ≡ n + b → j - i ≡ b - a
    less n a b i j at end = omega (arith, at, end)

slice_within : {A : Type 0} (xs : List A) (a b c d : ℕ) → c ≤ d → a + d ≤ b → slice_range (slice_range xs a b) c d ≡ slice_range xs (a + c) (a + d)
slice_within xs a b c d order within =
    ap (take (d - c)) (ap (λ (n : ℕ). drop c (take n (drop a xs))) (sum a b c d order within) ∙ drop-take c (b - a - c) (drop a xs) ∙ ap (take (b - a - c)) (drop-drop c a xs))
    ∙ take-take (d - c) (b - a - c) (drop (a + c) xs) (omega (arith, order, within))
    ∙ ap (λ (n : ℕ). take n (drop (a + c) xs)) (same a c d)
  where
    sum : (a b c d : ℕ) → c ≤ d → a + d ≤ b → b - a ≡ c + (b - a - c)
    sum a b c d order within = omega (arith, order, within)

    same : (a c d : ℕ) → d - c ≡ a + d - (a + c)
    same a c d = omega arith

-- pieces of a cell from one of its strip's places on
cell_slice : (ps : List Piece) (cs : List declared.Cell) (c : declared.Cell) (f : Fill) (a b : ℕ) → a ≤ b → b ≤ c.count → c.from + c.count ≤ length ps →
    slice_range (row_of ps cs c f) a b ≡ slice_range (run_docs ps cs f) (c.from + a) (c.from + b)
cell_slice ps cs c f a b order within there =
    mapped_slice (piece_doc (cell_at ps cs) f) (pieces_of ps c) a b
    ∙ ap (map (piece_doc (cell_at ps cs) f)) (slice_within ps c.from (c.from + c.count) a b order (omega (arith, within)))
    ∙ sym (mapped_slice (piece_doc (cell_at ps cs) f) ps (c.from + a) (c.from + b))

part_slice : (ps : List Piece) (cs : List declared.Cell) (c : declared.Cell) (f : Fill) (s e a b : ℕ) → a ≤ b → s + b ≤ e → e ≤ c.count → c.from + c.count ≤ length ps →
    slice_range (slice_range (row_of ps cs c f) s e) a b ≡ slice_range (run_docs ps cs f) (c.from + s + a) (c.from + s + b)
part_slice ps cs c f s e a b order within end there =
    slice_within (row_of ps cs c f) s e a b order within
    ∙ cell_slice ps cs c f (s + a) (s + b) (omega (arith, order)) (omega (arith, within, end)) there
    ∙ ap₂ (λ (p q : ℕ). slice_range (run_docs ps cs f) p q) (sum c.from s a) (sum c.from s b)
  where
    sum : (x y z : ℕ) → x + (y + z) ≡ x + y + z
    sum x y z = omega arith

-- documents of the first part, and of the last one
abbrev head_docs : List Piece → List declared.Cell → declared.Cell → Strip → List Doc
head_docs ps cs c s = slice_range (row_of ps cs c fill.Space) s.head s.head_end

head_length : (ps : List Piece) (cs : List declared.Cell) (c : declared.Cell) (s : Strip) → length (pieces_of ps c) ≡ c.count → StripStands s c.count →
    length (head_docs ps cs c s) ≡ s.head_end - s.head
head_length ps cs c s count h =
    length_sliced (row_of ps cs c fill.Space) s.head s.head_end
    (omega (arith, length-map (pieces_of ps c) (piece_doc (cell_at ps cs) fill.Space), count, h.between, h.tail, h.within))

pub head_run : (ps : List Piece) (cs : List declared.Cell) (c : declared.Cell) (f : Row → Doc) (s : Strip) (from to : ℕ) → length (pieces_of ps c) ≡ c.count →
    c.from + c.count ≤ length ps → StripStands s c.count → from ≤ to → to ≤ s.head_end - s.head →
    slice_range (strip_docs (row_of ps cs c) f s) from to ≡ slice_range (run_docs ps cs fill.Space) (c.from + s.head + from) (c.from + s.head + to)
head_run ps cs c f s from to count there h order within =
    slice_front (head_docs ps cs c s) (inner_docs f s.inner ++ slice_range (row_of ps cs c s.fill) s.tail s.tail_end) from to order (omega (arith, within, head_length ps cs c s count h))
    ∙ part_slice ps cs c fill.Space s.head s.head_end from to order (omega (arith, within, h.head)) (omega (arith, h.between, h.tail, h.within)) there

pub tail_run : (ps : List Piece) (cs : List declared.Cell) (c : declared.Cell) (f : Row → Doc) (s : Strip) (before from to : ℕ) → length (pieces_of ps c) ≡ c.count →
    c.from + c.count ≤ length ps → StripStands s c.count → before ≡ (s.head_end - s.head) + inner_length s.inner → before ≤ from → from ≤ to → to ≤ before + (s.tail_end - s.tail) →
    slice_range (strip_docs (row_of ps cs c) f s) from to ≡ slice_range (run_docs ps cs s.fill) (c.from + s.tail + (from - before)) (c.from + s.tail + (to - before))
tail_run ps cs c f s before from to count there h is past order within =
    slice_back head (inner_docs f s.inner ++ tail) (s.head_end - s.head) (inner_length s.inner + (from - before)) (inner_length s.inner + (to - before)) from to
    (sym (head_length ps cs c s count h)) (at (s.head_end - s.head) (inner_length s.inner) before from is past) (at (s.head_end - s.head) (inner_length s.inner) before to is (omega (arith, past, order)))
    ∙ slice_back (inner_docs f s.inner) tail (inner_length s.inner) (from - before) (to - before) (inner_length s.inner + (from - before)) (inner_length s.inner + (to - before))
    (sym (length_inner f s.inner)) refl refl
    ∙ part_slice ps cs c s.fill s.tail s.tail_end (from - before) (to - before) (omega (arith, past, order)) (omega (arith, past, order, within, h.tail)) h.within there
  where
    head : List Doc
    head = head_docs ps cs c s

    tail : List Doc
    tail = slice_range (row_of ps cs c s.fill) s.tail s.tail_end

    at : (n k before i : ℕ) → before ≡ n + k → before ≤ i → i ≡ n + (k + (i - before))
    at n k before i is past = omega (arith, is, past)

-- the same of a row of a cell
pub head_of_row : (ps : List Piece) (cs : List declared.Cell) (k : ℕ) (c : declared.Cell) (row : Row) (s : Strip) (from to : ℕ) → CellsStand ps cs → slice_get cs k ≡ Some c →
    s ≡ strip_of c.marks c.count row → from ≤ to → to ≤ s.head_end - s.head →
    slice_range (docs_of ps cs c row) from to ≡ slice_range (run_docs ps cs fill.Space) (c.from + s.head + from) (c.from + s.head + to)
unfolding CellsStand
head_of_row ps cs k c row s from to stand is same order within =
    ap (λ (t : Strip). slice_range (strip_docs (row_of ps cs c) (row_doc c.marks c.count (row_of ps cs c)) t) from to) (sym same)
    ∙ head_run ps cs c (row_doc c.marks c.count (row_of ps cs c)) s from to (count_of ps k c (stand k c is)) (stand k c is).within
    (strip_is c.count s (strip_of c.marks c.count row) same (cell_strip ps cs k c row stand is)) order within

pub tail_of_row : (ps : List Piece) (cs : List declared.Cell) (k : ℕ) (c : declared.Cell) (row : Row) (s : Strip) (before from to : ℕ) → CellsStand ps cs → slice_get cs k ≡ Some c →
    s ≡ strip_of c.marks c.count row → before ≡ before_tail s → before ≤ from → from ≤ to → to ≤ length (docs_of ps cs c row) →
    slice_range (docs_of ps cs c row) from to ≡ slice_range (run_docs ps cs s.fill) (c.from + s.tail + (from - before)) (c.from + s.tail + (to - before))
unfolding CellsStand
tail_of_row ps cs k c row s before from to stand is same at past order within =
    let all : length (docs_of ps cs c row) ≡ strip_length s = cell_length ps cs k c row stand is ∙ ap strip_length (sym same) in
    ap (λ (t : Strip). slice_range (strip_docs (row_of ps cs c) (row_doc c.marks c.count (row_of ps cs c)) t) from to) (sym same)
    ∙ tail_run ps cs c (row_doc c.marks c.count (row_of ps cs c)) s before from to (count_of ps k c (stand k c is)) (stand k c is).within
    (strip_is c.count s (strip_of c.marks c.count row) same (cell_strip ps cs k c row stand is)) at past order (omega (arith, within, all, at))

-- where both parts end
pub row_ends : (ps : List Piece) (cs : List declared.Cell) (k : ℕ) (c : declared.Cell) (row : Row) (s : Strip) (before to : ℕ) → CellsStand ps cs → slice_get cs k ≡ Some c →
    s ≡ strip_of c.marks c.count row → before ≡ before_tail s → to ≤ length (docs_of ps cs c row) → before ≤ to → c.from + s.tail + (to - before) ≤ length ps
unfolding CellsStand
row_ends ps cs k c row s before to stand is same at within past =
    let all : length (docs_of ps cs c row) ≡ strip_length s = cell_length ps cs k c row stand is ∙ ap strip_length (sym same) in
    let h = strip_is c.count s (strip_of c.marks c.count row) same (cell_strip ps cs k c row stand is) in
    omega (arith, within, all, at, past, h.tail, h.within, (stand k c is).within)

-- the row between them is one document
pub few_between : (o : Option Inner) → inner_length o ≤ 1
few_between None = omega arith
few_between (Some inner) = omega arith

pub some_between : (o : Option Inner) → 0 < inner_length o → (inner : Inner) × (o ≡ Some inner)
some_between None some = absurd (omega (arith, some))
some_between (Some inner) some = (inner, refl)
