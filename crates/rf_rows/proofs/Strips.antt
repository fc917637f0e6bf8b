-- The documents of a row, one by one.
use Rattle.std.proofs.Common.{◌≡◌, ℕ, ◌+◌, ◌-◌, List, ◌++◌, length, map, refl, ◌∙◌, ap, ap₂, Option, Some, None, slice_get, arith}
use Rattle.std.proofs.lemmas.List.{length-append, length-map}
use Rattle.std.specs.List.{slice_range}
use Rattle.rf_base_document.specs.Document.{Doc}
use Rattle.rf_base_document.specs.Sequence.{seq}
use Rattle.rf_rows.specs.declared.pieces.Fill.{Fill}
use Rattle.rf_rows.specs.declared.pieces.Fill.TheVariants as fill
use Rattle.rf_rows.specs.declared.pieces.Piece.{Piece}
use Rattle.rf_rows.specs.declared.layouts.Row.{Row}
use Rattle.rf_rows.specs.declared.layouts.Row.TheVariants.{Dropped, Hanging, Hung, InLine, Lines, InColumn, Columns, Column}
use Rattle.rf_rows.specs.declared.layouts.Inner.{Inner}
use Rattle.rf_rows.specs.declared.layouts.Strip.{Strip}
use Rattle.rf_rows.specs.declared.layouts.Marks.{Marks}
use Rattle.rf_rows.specs.Layouts.{Filled, strip_of, inner_doc, inner_docs, strip_docs, row_to, row_doc, AreMarks}
use Rattle.rf_rows.specs.Cells.{piece_doc, filled_by}
use Rattle.rf_rows.specs.Nodes.{StripStands, inner_length, strip_length}
use Rattle.rf_rows.proofs.Slices.{get_behind, length_sliced}

-- a row is its documents in sequence
pub row_is_seq : (m : Marks) (count : ℕ) (r : Filled) (row : Row) →
    row_doc m count r row ≡ seq (strip_docs r (row_doc m count r) (strip_of m count row))
unfolding row_to
row_is_seq m count r Dropped = refl
row_is_seq m count r Hanging = refl
row_is_seq m count r Hung = refl
row_is_seq m count r InLine = refl
row_is_seq m count r Lines = refl
row_is_seq m count r InColumn = refl
row_is_seq m count r Columns = refl
row_is_seq m count r Column = refl

pub strip_stands : (m : Marks) (count : ℕ) (row : Row) → AreMarks m count → StripStands (strip_of m count row) count
strip_stands m count Dropped h = record { head = omega arith; between = omega arith; tail = omega arith; within = omega arith }
strip_stands m count Hung h = record { head = omega arith; between = omega arith; tail = omega (arith, h.second, h.bodies); within = omega arith }
strip_stands m count Lines h = record { head = omega (arith, h.first, h.second); between = omega arith; tail = h.bodies; within = omega arith }
strip_stands m count Columns h = record { head = h.first; between = h.second; tail = h.bodies; within = omega arith }
strip_stands m count Column h = record { head = omega arith; between = omega arith; tail = h.second; within = h.bodies }
strip_stands m count _ h = record { head = omega arith; between = omega (arith, h.first, h.second, h.bodies); tail = omega arith; within = omega arith }

-- the three parts of a row
abbrev head_docs : Filled → Strip → List Doc
head_docs r s = slice_range (r fill.Space) s.head s.head_end

abbrev tail_docs : Filled → Strip → List Doc
tail_docs r s = slice_range (r s.fill) s.tail s.tail_end

pub length_inner : (f : Row → Doc) (o : Option Inner) → length (inner_docs f o) ≡ inner_length o
length_inner f None = refl
length_inner f (Some inner) = refl

pub length_strip : (r : Filled) (f : Row → Doc) (s : Strip) (count : ℕ) → ((fill : Fill) → length (r fill) ≡ count) → StripStands s count →
    length (strip_docs r f s) ≡ strip_length s
length_strip r f s count each h =
    let first : length (head_docs r s) ≡ s.head_end - s.head = length_sliced (r fill.Space) s.head s.head_end (omega (arith, each fill.Space, h.between, h.tail, h.within)) in
    let last : length (tail_docs r s) ≡ s.tail_end - s.tail = length_sliced (r s.fill) s.tail s.tail_end (omega (arith, each s.fill, h.within)) in
    length-append (head_docs r s) (inner_docs f s.inner ++ tail_docs r s)
    ∙ ap₂ (λ (n m : ℕ). n + m) first (length-append (inner_docs f s.inner) (tail_docs r s) ∙ ap₂ (λ (n m : ℕ). n + m) (length_inner f s.inner) last)
    ∙ together (s.head_end - s.head) (inner_length s.inner) (s.tail_end - s.tail)
  where
    together : (a b c : ℕ) → a + (b + c) ≡ a + b + c
    together a b c = omega arith

-- the other row
pub in_inner : (g : ℕ → Doc) (qs : List Piece) (f : Row → Doc) (s : Strip) (inner : Inner) (p : ℕ) → StripStands s (length qs) → s.inner ≡ Some inner →
    p ≡ s.head_end - s.head → slice_get (strip_docs (filled_by g qs) f s) p ≡ Some (inner_doc f inner)
in_inner g qs f s inner p h is at =
    get_behind (head_docs (filled_by g qs) s) (inner_docs f s.inner ++ tail_docs (filled_by g qs) s) 0 p (omega (arith, at, first))
    ∙ ap (λ (o : Option Inner). slice_get (inner_docs f o ++ tail_docs (filled_by g qs) s) 0) is
  where
    first : length (head_docs (filled_by g qs) s) ≡ s.head_end - s.head
    first = length_sliced (map (piece_doc g fill.Space) qs) s.head s.head_end (omega (arith, length-map qs (piece_doc g fill.Space), h.between, h.tail, h.within))
