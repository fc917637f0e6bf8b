-- The documents that a node is one after another, and the first of them.
use Rattle.std.proofs.lemmas.Bool.Decides.{nat_tests}
use Rattle.std.proofs.Common.{◌≡◌, ℕ, zero, suc, ◌+◌, ◌-◌, ◌≤◌, ◌<◌, ◌⊎◌, ◌&&◌, if◌then◌else◌, nat_le, Bool, true, false, inl, inr, List, [], ◌∷◌, length, refl, sym, ◌∙◌, ap, ap₂, Option, Some, None, slice_get, take, drop, arith}
use Rattle.std.specs.List.{slice_range}
use Rattle.std.proofs.lemmas.Bool.{and_parts}
use Rattle.rf_base_document.specs.Document.{Doc}
use Rattle.rf_base_document.specs.Sequence.{seq}
use Rattle.rf_base_document.proofs.Sequence.{seq_of_one}
use Rattle.rf_outline.specs.Sequences.{IsSequence}
use Rattle.rf_outline.proofs.Sequences.{alone, seq_is_sequence}
use Rattle.rf_lines.proofs.Between.{some_at}
use Rattle.rf_rows.specs.declared.pieces.Piece.{Piece}
use Rattle.rf_rows.specs.declared.cells.Cell as declared
use Rattle.rf_rows.specs.declared.layouts.Row.{Row}
use Rattle.rf_rows.specs.declared.layouts.Inner.{Inner}
use Rattle.rf_rows.specs.declared.layouts.Inner.TheVariants as inner
use Rattle.rf_rows.specs.declared.nodes.Node.{Node}
use Rattle.rf_rows.specs.declared.nodes.Node.TheVariants.{Leaf, Run, Cell, Others, Laid, Unpaid, Aligned, Nested, Range, Break, Nothing}
use Rattle.rf_rows.specs.Nodes.{nothing, run_docs, docs_of, range_doc, range_docs, of_cell, of_cell_docs, inner_node, node_doc, node_docs}
use Rattle.rf_rows.proofs.Slices.{length_sliced, slice_of_one}
use Rattle.rf_rows.proofs.Opened.{range_past}

-- several documents
pub docs_here : (docs : List Doc) (from to : ℕ) → from + 2 ≤ to → to ≤ length docs → range_docs docs from to ≡ slice_range docs from to
docs_here docs from to some within =
    let one : nat_le (from + 2) to ≡ true = grind (arith, nat_tests) in
    let two : nat_le to (length docs) ≡ true = grind (arith, nat_tests) in
    ap₂ (λ (a b : Bool). if a && b then slice_range docs from to else nothing ∷ []) one two

docs_past : (docs : List Doc) (from to : ℕ) → (to < from + 2) ⊎ (length docs < to) → range_docs docs from to ≡ nothing ∷ []
docs_past docs from to (inl few) =
    let one : nat_le (from + 2) to ≡ false = grind (arith, nat_tests) in
    ap (λ (a : Bool). if a && nat_le to (length docs) then slice_range docs from to else nothing ∷ []) one
docs_past docs from to (inr past) =
    let two : nat_le to (length docs) ≡ false = grind (arith, nat_tests) in
    ap (λ (b : Bool). if nat_le (from + 2) to && b then slice_range docs from to else nothing ∷ []) two ∙ neither (nat_le (from + 2) to)
  where
    neither : (a : Bool) → (if a && false then slice_range docs from to else nothing ∷ []) ≡ nothing ∷ []
    neither true = refl
    neither false = refl

-- fewer than two, and some past the end, are one
pub no_split : (docs : List Doc) (from to : ℕ) → (to < from + 2) ⊎ (length docs < to) → range_docs docs from to ≡ range_doc docs from to ∷ []
no_split docs from to past = docs_past docs from to past ∙ ap (λ (d : Doc). d ∷ []) (sym (range_past docs from to past))

-- the first of a slice, and the others
first_off : {A : Type 0} (n from : ℕ) (xs : List A) (x : A) → slice_get xs from ≡ Some x → take (suc n) (drop from xs) ≡ x ∷ take n (drop (suc from) xs)
first_off n zero [] x is = cc
first_off {A = A} n zero (y ∷ xs) x is = let same : y ≡ x = cc in ap (λ (z : A). z ∷ take n xs) same
first_off n (suc from) [] x is = cc
first_off n (suc from) (y ∷ xs) x is = first_off n from xs x is

pub slice_first : {A : Type 0} (xs : List A) (from to next : ℕ) (x : A) → from < to → next ≡ from + 1 → slice_get xs from ≡ Some x → slice_range xs from to ≡ x ∷ slice_range xs next to
slice_first {A = A} xs from to next x less at is =
    ap (λ (n : ℕ). take n (drop from xs)) (more from to next less at) ∙ first_off (to - next) from xs x is
    ∙ ap (λ (n : ℕ). x ∷ take (to - next) (drop n xs)) (after_it from next at)
  where
    more : (from to next : ℕ) → from < to → next ≡ from + 1 → to - from ≡ suc (to - next)
    more from to next less at = omega (arith, less, at)

    after_it : (from next : ℕ) → next ≡ from + 1 → suc from ≡ next
    after_it from next at = omega (arith, at)

pub range_splits : (docs : List Doc) (from to next : ℕ) (first : Doc) (others : List Doc) → from ≤ to - 2 → 2 ≤ to → to ≤ length docs → next ≡ from + 1 →
    first ≡ seq (slice_range docs from next) → others ≡ slice_range docs next to → range_docs docs from to ≡ first ∷ others
range_splits docs from to next first others less two within at first_is others_are =
    docs_here docs from to (omega (arith, less, two)) within
    ∙ slice_first docs from to next d.0 (omega (arith, less, two)) at d.1
    ∙ ap₂ (λ (x : Doc) (xs : List Doc). x ∷ xs) (sym one) (sym others_are)
  where
    d : (x : Doc) × (slice_get docs from ≡ Some x)
    d = some_at docs from (omega (arith, less, two, within))

    one : first ≡ d.0
    one = first_is ∙ ap (λ (n : ℕ). seq (slice_range docs from n)) at ∙ ap seq (slice_of_one docs from d.0 d.1) ∙ seq_of_one d.0

-- one document as a slice
pub slice_alone : (docs : List Doc) (from to : ℕ) (d : Doc) → to - from ≡ 1 → slice_get docs from ≡ Some d → d ∷ [] ≡ slice_range docs from to
slice_alone docs from to d one is =
    let next : to ≡ from + 1 = omega (arith, one) in
    sym (ap (λ (n : ℕ). slice_range docs from n) next ∙ slice_of_one docs from d is)

-- of a row of a cell
pub cell_docs : (ps : List Piece) (cs : List declared.Cell) (k : ℕ) (c : declared.Cell) (row : Row) (from to : ℕ) → slice_get cs k ≡ Some c →
    node_docs ps cs (Range k row from to) ≡ range_docs (docs_of ps cs c row) from to
cell_docs ps cs k c row from to is = ap (λ (o : Option declared.Cell). of_cell_docs o (λ e. range_docs (docs_of ps cs e row) from to)) is

-- a row in another one is one document
pub inner_alone : (ps : List Piece) (cs : List declared.Cell) (k : ℕ) (inner : Inner) (n : Node) → n ≡ inner_node k inner → node_docs ps cs n ≡ node_doc ps cs n ∷ []
inner_alone ps cs k (inner.Aligned row) n is = ap (node_docs ps cs) is ∙ ap (λ (m : Node). node_doc ps cs m ∷ []) (sym is)
inner_alone ps cs k (inner.Nested row) n is = ap (node_docs ps cs) is ∙ ap (λ (m : Node). node_doc ps cs m ∷ []) (sym is)

range_sequence : (docs : List Doc) (from to : ℕ) → IsSequence (range_docs docs from to) (range_doc docs from to)
range_sequence docs from to = by_test (nat_le (from + 2) to && nat_le to (length docs)) refl where
  by_test : (b : Bool) → (nat_le (from + 2) to && nat_le to (length docs)) ≡ b →
      IsSequence (if b then slice_range docs from to else nothing ∷ []) (if b then seq (slice_range docs from to) else nothing)
  by_test false e = alone nothing
  by_test true e =
      let parts = and_parts (nat_le (from + 2) to) (nat_le to (length docs)) e in
      let some : from + 2 ≤ to = grind (arith, nat_tests, parts.0) in
      let within : to ≤ length docs = grind (arith, nat_tests, parts.1) in
      seq_is_sequence (slice_range docs from to) (omega (arith, some, length_sliced docs from to within))

of_cell_sequence : (ps : List Piece) (cs : List declared.Cell) (row : Row) (from to : ℕ) (o : Option declared.Cell) →
    IsSequence (of_cell_docs o (λ c. range_docs (docs_of ps cs c row) from to)) (of_cell o (λ c. range_doc (docs_of ps cs c row) from to))
of_cell_sequence ps cs row from to None = alone nothing
of_cell_sequence ps cs row from to (Some c) = range_sequence (docs_of ps cs c row) from to

pub node_sequence : (ps : List Piece) (cs : List declared.Cell) (n : Node) → IsSequence (node_docs ps cs n) (node_doc ps cs n)
node_sequence ps cs (Leaf e f) = alone (node_doc ps cs (Leaf e f))
node_sequence ps cs (Run from to f) = range_sequence (run_docs ps cs f) from to
node_sequence ps cs (Cell k) = alone (node_doc ps cs (Cell k))
node_sequence ps cs (Others k) = alone (node_doc ps cs (Others k))
node_sequence ps cs (Laid k which) = alone (node_doc ps cs (Laid k which))
node_sequence ps cs (Unpaid k which) = alone (node_doc ps cs (Unpaid k which))
node_sequence ps cs (Aligned k row) = alone (node_doc ps cs (Aligned k row))
node_sequence ps cs (Nested k row) = alone (node_doc ps cs (Nested k row))
node_sequence ps cs (Range k row from to) = of_cell_sequence ps cs row from to (slice_get cs k)
node_sequence ps cs Break = alone (node_doc ps cs Break)
node_sequence ps cs Nothing = alone (node_doc ps cs Nothing)
