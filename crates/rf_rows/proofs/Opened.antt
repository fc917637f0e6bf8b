-- What the nodes of laid rows are, one kind after another.
use Rattle.std.proofs.Common.{◌≡◌, ℕ, zero, suc, ◌+◌, ◌-◌, ◌≤◌, ◌<◌, ◌^◌, ◌⊎◌, ◌&&◌, if◌then◌else◌, nat_le, Bool, true, false, inl, inr, List, [], ◌∷◌, length, refl, sym, ◌∙◌, ap, ap₂, subst, Option, Some, None, slice_get, take, arith}
use Rattle.std.proofs.lemmas.Bool.Decides.{nat_tests}
use Rattle.std.proofs.lemmas.List.{length-map}
use Rattle.std.proofs.Math.Seq.{take-length}
use Rattle.std.specs.List.{slice_range}
use Rattle.rf_base_document.specs.Document.{Doc, Concat, Nest, Align, Choice}
use Rattle.rf_base_document.specs.Sequence.{half_up, seq}
use Rattle.rf_base_document.proofs.Sequence.{seq_of_none, seq_of_one}
use Rattle.rf_rows.specs.declared.pieces.Piece.{Piece}
use Rattle.rf_rows.specs.declared.cells.Cell as declared
use Rattle.rf_rows.specs.declared.layouts.Row.{Row}
use Rattle.rf_rows.specs.declared.layouts.Row.TheVariants.{Dropped}
use Rattle.rf_rows.specs.declared.layouts.Inner.{Inner}
use Rattle.rf_rows.specs.declared.layouts.Inner.TheVariants.{Aligned, Nested}
use Rattle.rf_rows.specs.declared.layouts.Layout.{Layout}
use Rattle.rf_rows.specs.declared.layouts.Layouts.{Layouts}
use Rattle.rf_rows.specs.declared.layouts.Layouts.TheVariants.{Bare, One, Two, Three}
use Rattle.rf_rows.specs.declared.layouts.Which.{Which}
use Rattle.rf_rows.specs.declared.layouts.Which.TheVariants.{First, Second}
use Rattle.rf_rows.specs.declared.layouts.Strip.{Strip}
use Rattle.rf_rows.specs.declared.nodes.Node.{Node}
use Rattle.rf_rows.specs.declared.nodes.Node.TheVariants.{Leaf, Run, Cell, Others, Laid, Unpaid, Range, Nothing}
use Rattle.rf_rows.specs.Layouts.{strip_of, inner_doc, strip_docs, row_doc, unpaid_doc, layout_doc, cell_doc, AreCellLayouts}
use Rattle.rf_rows.specs.Cells.{piece_doc, pieces_of, cell_at, CellStands, CellsStand}
use Rattle.rf_rows.specs.Nodes.{nothing, row_of, docs_of, range_doc, node_doc, StripStands, strip_length, inner_node, of_cell, of_layout, layout_at, others_doc, cell_of}
use Rattle.rf_rows.specs.declared.nodes.Node.TheVariants as node
use Rattle.rf_rows.proofs.Unfolding.{cell_unfolds, no_cell}
use Rattle.rf_rows.proofs.Slices.{get_sliced, length_sliced, slice_of_one, slice_of_none, slice_halves}
use Rattle.rf_rows.proofs.Strips.{row_is_seq, strip_stands, length_strip, in_inner}

-- the rows of a cell
pub cell_strip : (ps : List Piece) (cs : List declared.Cell) (k : ℕ) (c : declared.Cell) (row : Row) → CellsStand ps cs → slice_get cs k ≡ Some c →
    StripStands (strip_of c.marks c.count row) c.count
unfolding CellsStand
cell_strip ps cs k c row stand is = strip_stands c.marks c.count row (stand k c is).marks

pub strip_is : (count : ℕ) (s t : Strip) → s ≡ t → StripStands t count → StripStands s count
strip_is count s t is h = subst (λ (x : Strip). StripStands x count) (sym is) h

pub cell_few : (ps : List Piece) (cs : List declared.Cell) (k : ℕ) (c : declared.Cell) → CellsStand ps cs → slice_get cs k ≡ Some c →
    length ps < 2 ^ 63 → c.count < 2 ^ 63
unfolding CellsStand
cell_few ps cs k c stand is few = omega (arith, few, (stand k c is).within)

pub count_of : (ps : List Piece) (k : ℕ) (c : declared.Cell) → CellStands ps k c → length (pieces_of ps c) ≡ c.count
count_of ps k c h = length_sliced ps c.from (c.from + c.count) h.within ∙ omega arith

pub cell_length : (ps : List Piece) (cs : List declared.Cell) (k : ℕ) (c : declared.Cell) (row : Row) → CellsStand ps cs → slice_get cs k ≡ Some c →
    length (docs_of ps cs c row) ≡ strip_length (strip_of c.marks c.count row)
unfolding CellsStand
cell_length ps cs k c row stand is =
    length_strip (row_of ps cs c) (row_doc c.marks c.count (row_of ps cs c)) (strip_of c.marks c.count row) c.count
    (λ f. length-map (pieces_of ps c) (piece_doc (cell_at ps cs) f) ∙ count_of ps k c (stand k c is)) (strip_stands c.marks c.count row (stand k c is).marks)

-- a sequence of all
pub all_sliced : {A : Type 0} (xs : List A) (n : ℕ) → n ≡ length xs → slice_range xs 0 n ≡ xs
all_sliced xs n is = ap (λ (m : ℕ). take m xs) (omega (arith, is)) ∙ take-length xs

pub whole_row : (ps : List Piece) (cs : List declared.Cell) (c : declared.Cell) (row : Row) (n : ℕ) (d : Doc) → n ≡ length (docs_of ps cs c row) →
    d ≡ seq (slice_range (docs_of ps cs c row) 0 n) → d ≡ row_doc c.marks c.count (row_of ps cs c) row
whole_row ps cs c row n d end is =
    is ∙ ap seq (all_sliced (docs_of ps cs c row) n end) ∙ sym (row_is_seq c.marks c.count (row_of ps cs c) row)

-- a piece of a row
pub piece_kept : (ps : List Piece) (k : ℕ) (c : declared.Cell) (i : ℕ) → CellStands ps k c → i < c.count → slice_get (pieces_of ps c) i ≡ slice_get ps (c.from + i)
piece_kept ps k c i h less = get_sliced ps c.from (c.from + c.count) i (omega (arith, less))

-- the row that stands as one
inner_is : (ps : List Piece) (cs : List declared.Cell) (k : ℕ) (c : declared.Cell) (inner : Inner) → slice_get cs k ≡ Some c →
    inner_doc (row_doc c.marks c.count (row_of ps cs c)) inner ≡ node_doc ps cs (inner_node k inner)
inner_is ps cs k c (Aligned row) is = sym (ap (λ (o : Option declared.Cell). of_cell o (λ e. Align (row_doc e.marks e.count (row_of ps cs e) row))) is)
inner_is ps cs k c (Nested row) is = sym (ap (λ (o : Option declared.Cell). of_cell o (λ e. Nest 1 (row_doc e.marks e.count (row_of ps cs e) row))) is)

pub inner_at : (ps : List Piece) (cs : List declared.Cell) (k : ℕ) (c : declared.Cell) (row : Row) (s : Strip) (at : ℕ) (inner : Inner) (node : Node) → CellsStand ps cs →
    slice_get cs k ≡ Some c → s ≡ strip_of c.marks c.count row → s.inner ≡ Some inner → at ≡ s.head_end - s.head → node ≡ inner_node k inner →
    slice_get (docs_of ps cs c row) at ≡ Some (node_doc ps cs node)
unfolding CellsStand
inner_at ps cs k c row s at inner node stand is same some place named =
    let f = row_doc c.marks c.count (row_of ps cs c) in
    let h = strip_is c.count s (strip_of c.marks c.count row) same (cell_strip ps cs k c row stand is) in
    let count = count_of ps k c (stand k c is) in
    subst (λ (t : Strip). slice_get (strip_docs (row_of ps cs c) f t) at ≡ Some (inner_doc f inner)) same
    (in_inner (cell_at ps cs) (pieces_of ps c) f s inner at (subst (λ (n : ℕ). StripStands s n) (sym count) h) some place)
    ∙ ap (λ (d : Doc). Some d) (inner_is ps cs k c inner is ∙ ap (node_doc ps cs) (sym named))

-- ranges
pub range_here : (docs : List Doc) (from to : ℕ) → from + 2 ≤ to → to ≤ length docs → range_doc docs from to ≡ seq (slice_range docs from to)
range_here docs from to some within =
    let one : nat_le (from + 2) to ≡ true = grind (arith, nat_tests) in
    let two : nat_le to (length docs) ≡ true = grind (arith, nat_tests) in
    ap₂ (λ (a b : Bool). if a && b then seq (slice_range docs from to) else nothing) one two

pub range_past : (docs : List Doc) (from to : ℕ) → (to < from + 2) ⊎ (length docs < to) → range_doc docs from to ≡ nothing
range_past docs from to (inl few) =
    let one : nat_le (from + 2) to ≡ false = grind (arith, nat_tests) in
    ap (λ (a : Bool). if a && nat_le to (length docs) then seq (slice_range docs from to) else nothing) one
range_past docs from to (inr past) =
    let two : nat_le to (length docs) ≡ false = grind (arith, nat_tests) in
    ap (λ (b : Bool). if nat_le (from + 2) to && b then seq (slice_range docs from to) else nothing) two ∙ neither (nat_le (from + 2) to)
  where
    neither : (a : Bool) → (if a && false then seq (slice_range docs from to) else nothing) ≡ nothing
    neither true = refl
    neither false = refl

pub range_halves : (docs : List Doc) (from to half : ℕ) (a b : Doc) → from ≤ to - 2 → 2 ≤ to → to ≤ length docs → half ≡ half_up (to - from) →
    a ≡ seq (slice_range docs from (from + half)) → b ≡ seq (slice_range docs (from + half) to) → range_doc docs from to ≡ Concat a b
range_halves docs from to half a b less two within is first second =
    range_here docs from to (omega (arith, less, two)) within
    ∙ slice_halves docs from to (from + half) (omega (arith, less, two)) within (ap (λ (n : ℕ). from + n) is)
    ∙ ap₂ Concat (sym first) (sym second)

pub seq_none : (docs : List Doc) (from to : ℕ) → from ≤ to → to - from ≡ 0 → nothing ≡ seq (slice_range docs from to)
seq_none docs from to order none =
    let same : to ≡ from = omega (arith, order, none) in
    sym (ap (λ (n : ℕ). seq (slice_range docs from n)) same ∙ ap seq (slice_of_none docs from) ∙ seq_of_none)

pub seq_one : (docs : List Doc) (from to : ℕ) (d : Doc) → to - from ≡ 1 → slice_get docs from ≡ Some d → d ≡ seq (slice_range docs from to)
seq_one docs from to d one is =
    let next : to ≡ from + 1 = omega (arith, one) in
    sym (ap (λ (n : ℕ). seq (slice_range docs from n)) next ∙ ap seq (slice_of_one docs from d is) ∙ seq_of_one d)

-- the node of a range that has two documents at least
pub range_node : (ps : List Piece) (cs : List declared.Cell) (k : ℕ) (c : declared.Cell) (row : Row) (from to : ℕ) → slice_get cs k ≡ Some c →
    from + 2 ≤ to → to ≤ length (docs_of ps cs c row) → node_doc ps cs (Range k row from to) ≡ seq (slice_range (docs_of ps cs c row) from to)
range_node ps cs k c row from to is some within =
    ap (λ (o : Option declared.Cell). of_cell o (λ e. range_doc (docs_of ps cs e row) from to)) is ∙ range_here (docs_of ps cs c row) from to some within

-- layouts
pub laid_is : (ps : List Piece) (cs : List declared.Cell) (k : ℕ) (c : declared.Cell) (which : Which) (l : Layout) → slice_get cs k ≡ Some c →
    layout_at c.layouts which ≡ Some l → node_doc ps cs (Laid k which) ≡ layout_doc c.marks c.count (row_of ps cs c) l
laid_is ps cs k c which l is at =
    ap (λ (o : Option declared.Cell). of_cell o (λ e. of_layout (layout_at e.layouts which) (layout_doc e.marks e.count (row_of ps cs e)))) is
    ∙ ap (λ (o : Option Layout). of_layout o (layout_doc c.marks c.count (row_of ps cs c))) at

pub cell_is : (ps : List Piece) (cs : List declared.Cell) (k : ℕ) (c : declared.Cell) (ls : Layouts) → CellsStand ps cs → slice_get cs k ≡ Some c → c.layouts ≡ ls →
    cell_at ps cs k ≡ cell_doc c.marks c.count (row_of ps cs c) ls
cell_is ps cs k c ls stand is laid =
    cell_unfolds ps cs k c stand is ∙ ap (λ (l : Layouts). cell_doc c.marks c.count (row_of ps cs c) l) laid

pub two_is : (ps : List Piece) (cs : List declared.Cell) (k : ℕ) (c : declared.Cell) (a b : Layout) → CellsStand ps cs → slice_get cs k ≡ Some c → c.layouts ≡ Two a b →
    cell_at ps cs k ≡ Choice (node_doc ps cs (Laid k First)) (node_doc ps cs (Laid k Second))
unfolding cell_doc
two_is ps cs k c a b stand is laid =
    cell_is ps cs k c (Two a b) stand is laid
    ∙ ap₂ Choice (sym (laid_is ps cs k c First a is (ap (λ (l : Layouts). layout_at l First) laid)))
    (sym (laid_is ps cs k c Second b is (ap (λ (l : Layouts). layout_at l Second) laid)))

pub others_is : (ps : List Piece) (cs : List declared.Cell) (k : ℕ) (c : declared.Cell) (a b d : Layout) → slice_get cs k ≡ Some c → c.layouts ≡ Three a b d →
    node_doc ps cs (Others k) ≡ Choice (layout_doc c.marks c.count (row_of ps cs c) b) (layout_doc c.marks c.count (row_of ps cs c) d)
others_is ps cs k c a b d is laid =
    ap (λ (o : Option declared.Cell). of_cell o (λ e. others_doc (layout_doc e.marks e.count (row_of ps cs e)) e.layouts)) is
    ∙ ap (λ (l : Layouts). others_doc (layout_doc c.marks c.count (row_of ps cs c)) l) laid

pub three_is : (ps : List Piece) (cs : List declared.Cell) (k : ℕ) (c : declared.Cell) (a b d : Layout) → CellsStand ps cs → slice_get cs k ≡ Some c → c.layouts ≡ Three a b d →
    cell_at ps cs k ≡ Choice (node_doc ps cs (Laid k First)) (node_doc ps cs (Others k))
unfolding cell_doc
three_is ps cs k c a b d stand is laid =
    cell_is ps cs k c (Three a b d) stand is laid
    ∙ ap₂ Choice (sym (laid_is ps cs k c First a is (ap (λ (l : Layouts). layout_at l First) laid))) (sym (others_is ps cs k c a b d is laid))

two_at_least : (count : ℕ) (l : Layouts) → l ≡ Bare → AreCellLayouts l count → 2 ≤ count
two_at_least count l is h = subst (λ (x : Layouts). AreCellLayouts x count) is h

pub bare_is : (ps : List Piece) (cs : List declared.Cell) (k : ℕ) (c : declared.Cell) (n : ℕ) → CellsStand ps cs → slice_get cs k ≡ Some c → c.layouts ≡ Bare →
    n ≡ length (docs_of ps cs c Dropped) → range_doc (docs_of ps cs c Dropped) 0 n ≡ cell_at ps cs k
unfolding cell_doc CellsStand
bare_is ps cs k c n stand is laid end =
    let some : 2 ≤ c.count = two_at_least c.count c.layouts laid (stand k c is).layouts in
    let count = cell_length ps cs k c Dropped stand is in
    range_here (docs_of ps cs c Dropped) 0 n (omega (arith, some, count, end)) (omega (arith, end))
    ∙ whole_row ps cs c Dropped n (seq (slice_range (docs_of ps cs c Dropped) 0 n)) end refl
    ∙ sym (cell_is ps cs k c Bare stand is laid)

-- numbers of cells
named_is : {j k : ℕ} → Some j ≡ Some k → j ≡ k
named_is e = cc

found : (cs : List declared.Cell) (j k : ℕ) → Some j ≡ Some k → slice_get cs k ≡ None → slice_get cs j ≡ None
found cs j k named is = ap (slice_get cs) (named_is named) ∙ is

-- a node of a cell, by its kind
pub of_no_cell : (ps : List Piece) (cs : List declared.Cell) (n : Node) (k : ℕ) → cell_of n ≡ Some k → slice_get cs k ≡ None → node_doc ps cs n ≡ nothing
of_no_cell ps cs (Leaf e f) k named is = cc
of_no_cell ps cs (Run from to f) k named is = cc
of_no_cell ps cs (Cell j) k named is = ap (cell_at ps cs) (named_is named) ∙ no_cell ps cs k is
of_no_cell ps cs (Others j) k named is = ap (λ (o : Option declared.Cell). of_cell o (λ e. others_doc (layout_doc e.marks e.count (row_of ps cs e)) e.layouts)) (found cs j k named is)
of_no_cell ps cs (Laid j w) k named is = ap (λ (o : Option declared.Cell). of_cell o (λ e. of_layout (layout_at e.layouts w) (layout_doc e.marks e.count (row_of ps cs e)))) (found cs j k named is)
of_no_cell ps cs (Unpaid j w) k named is = ap (λ (o : Option declared.Cell). of_cell o (λ e. of_layout (layout_at e.layouts w) (unpaid_doc e.marks e.count (row_of ps cs e)))) (found cs j k named is)
of_no_cell ps cs (node.Aligned j row) k named is = ap (λ (o : Option declared.Cell). of_cell o (λ e. Align (row_doc e.marks e.count (row_of ps cs e) row))) (found cs j k named is)
of_no_cell ps cs (node.Nested j row) k named is = ap (λ (o : Option declared.Cell). of_cell o (λ e. Nest 1 (row_doc e.marks e.count (row_of ps cs e) row))) (found cs j k named is)
of_no_cell ps cs (Range j row from to) k named is = ap (λ (o : Option declared.Cell). of_cell o (λ e. range_doc (docs_of ps cs e row) from to)) (found cs j k named is)
of_no_cell ps cs node.Break k named is = cc
of_no_cell ps cs Nothing k named is = cc

-- the second and the third layout of a cell
pub others_node : (ps : List Piece) (cs : List declared.Cell) (n : Node) (j k : ℕ) (c : declared.Cell) → cell_of n ≡ Some k → n ≡ Others j → slice_get cs k ≡ Some c →
    node_doc ps cs n ≡ others_doc (layout_doc c.marks c.count (row_of ps cs c)) c.layouts
others_node ps cs n j k c named kind is =
    let same : j ≡ k = named_is (sym (ap cell_of kind) ∙ named) in
    ap (node_doc ps cs) kind
    ∙ ap (λ (o : Option declared.Cell). of_cell o (λ e. others_doc (layout_doc e.marks e.count (row_of ps cs e)) e.layouts)) (ap (slice_get cs) same ∙ is)

pub laid_node : (ps : List Piece) (cs : List declared.Cell) (k : ℕ) (c : declared.Cell) (which : Which) → slice_get cs k ≡ Some c →
    node_doc ps cs (Laid k which) ≡ of_layout (layout_at c.layouts which) (layout_doc c.marks c.count (row_of ps cs c))
laid_node ps cs k c which is =
    ap (λ (o : Option declared.Cell). of_cell o (λ e. of_layout (layout_at e.layouts which) (layout_doc e.marks e.count (row_of ps cs e)))) is

pub stands_at : (ps : List Piece) (cs : List declared.Cell) (k : ℕ) (c : declared.Cell) → CellsStand ps cs → slice_get cs k ≡ Some c → CellStands ps k c
unfolding CellsStand
stands_at ps cs k c stand is = stand k c is

pub cell_within : (ps : List Piece) (cs : List declared.Cell) (k : ℕ) (c : declared.Cell) → CellsStand ps cs → slice_get cs k ≡ Some c → c.from + c.count ≤ length ps
unfolding CellsStand
cell_within ps cs k c stand is = (stand k c is).within
