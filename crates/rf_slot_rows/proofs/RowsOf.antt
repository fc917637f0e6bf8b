-- Rows of pieces whose slots stand where the marks say.
use Rattle.std.proofs.Common.{◌≡◌, ℕ, suc, ◌+◌, ◌-◌, List, [], ◌∷◌, ◌++◌, length, take, drop, refl, sym, ap, ap₂, ◌∙◌, append_assoc, length-append, arith}
use Rattle.std.proofs.lemmas.List.{take_at, drop_at, take_all}
use Rattle.std.specs.List.{slice_range}
use Rattle.rf_base_document.specs.Document.{Doc, Nest, Align}
use Rattle.rf_base_document.specs.Sequence.{seq}
use Rattle.rf_rows.specs.declared.pieces.Fill.{Fill}
use Rattle.rf_rows.specs.declared.pieces.Fill.TheVariants as fill
use Rattle.rf_rows.specs.declared.layouts.Row.TheVariants.{Dropped, Hanging, Hung, InLine, Lines, InColumn, Columns, Column}
use Rattle.rf_rows.specs.declared.layouts.Marks.{Marks}
use Rattle.rf_rows.specs.declared.layouts.Row.{Row}
use Rattle.rf_rows.specs.declared.layouts.Strip.{Strip}
use Rattle.rf_rows.specs.Layouts.{Filled, strip_of, inner_docs, strip_docs, row_to, row_doc}

-- the pieces from one up to another, where they are known
slice_none : (xs : List Doc) (a : ℕ) → slice_range xs a a ≡ []
slice_none xs a = let none : a - a ≡ 0 = omega arith in ap (λ (n : ℕ). take n (drop a xs)) none

slice_front : (xs ys all : List Doc) (b : ℕ) → all ≡ xs ++ ys → b ≡ length xs → slice_range all 0 b ≡ xs
slice_front xs ys all b is size =
    ap (take (b - 0)) is ∙ take_at xs ys (b - 0) (omega (arith, size))

slice_middle : (xs ys zs all : List Doc) (a b : ℕ) → all ≡ xs ++ (ys ++ zs) → a ≡ length xs → b ≡ a + length ys → slice_range all a b ≡ ys
slice_middle xs ys zs all a b is begin size =
    ap (λ (ds : List Doc). take (b - a) (drop a ds)) is ∙ ap (take (b - a)) (drop_at xs (ys ++ zs) a (sym begin))
    ∙ take_at ys zs (b - a) (omega (arith, size))

slice_back : (xs ys all : List Doc) (a b : ℕ) → all ≡ xs ++ ys → a ≡ length xs → b ≡ length all → slice_range all a b ≡ ys
slice_back xs ys all a b is begin size =
    ap (λ (ds : List Doc). take (b - a) (drop a ds)) is ∙ ap (take (b - a)) (drop_at xs ys a (sym begin))
    ∙ take_all (b - a) ys (omega (arith, size, begin, ap length is, length-append xs ys))

-- a row, by what stands in it
strip_is : (r : Filled) (f : Row → Doc) (s : Strip) (x y : List Doc) → slice_range (r fill.Space) s.head s.head_end ≡ x → slice_range (r s.fill) s.tail s.tail_end ≡ y →
    seq (strip_docs r f s) ≡ seq (x ++ (inner_docs f s.inner ++ y))
strip_is r f s x y front back = ap₂ (λ (xs ys : List Doc). seq (xs ++ (inner_docs f s.inner ++ ys))) front back

row_is : (d : ℕ) (m : Marks) (count : ℕ) (r : Filled) (row : Row) (x y : List Doc) → slice_range (r fill.Space) (strip_of m count row).head (strip_of m count row).head_end ≡ x →
    slice_range (r (strip_of m count row).fill) (strip_of m count row).tail (strip_of m count row).tail_end ≡ y →
    row_to (suc d) m count r row ≡ seq (x ++ (inner_docs (row_to d m count r) (strip_of m count row).inner ++ y))
unfolding row_to
row_is d m count r row x y front back = strip_is r (row_to d m count r) (strip_of m count row) x y front back

-- all pieces, below one another
pub dropped_row : (m : Marks) (count : ℕ) (r : Filled) → count ≡ length (r fill.Newline) → row_doc m count r Dropped ≡ seq (r fill.Newline)
dropped_row m count r size =
    row_is 2 m count r Dropped [] (r fill.Newline) refl (slice_back [] (r fill.Newline) (r fill.Newline) 0 count refl refl size)

-- the pieces before the second slot, and the others below that
hung_row : (m : Marks) (count : ℕ) (r a t : Filled) → ((f : Fill) → r f ≡ a f ++ t f) → ((f : Fill) → m.second ≡ length (a f)) →
    count ≡ length (r fill.Newline) → row_to 2 m count r Hung ≡ seq (t fill.Newline)
hung_row m count r a t is second size =
    row_is 1 m count r Hung [] (t fill.Newline) (slice_none (r fill.Space) m.second)
    (slice_back (a fill.Newline) (t fill.Newline) (r fill.Newline) m.second count (is fill.Newline) (second fill.Newline) size)

pub hanging_row : (m : Marks) (count : ℕ) (r a t : Filled) → ((f : Fill) → r f ≡ a f ++ t f) → ((f : Fill) → m.second ≡ length (a f)) →
    count ≡ length (r fill.Newline) → row_doc m count r Hanging ≡ seq (a fill.Space ++ Align (seq (t fill.Newline)) ∷ [])
hanging_row m count r a t is second size =
    row_is 2 m count r Hanging (a fill.Space) []
    (slice_front (a fill.Space) (t fill.Space) (r fill.Space) m.second (is fill.Space) (second fill.Space)) (slice_none (r fill.Newline) count)
    ∙ ap (λ (d : Doc). seq (a fill.Space ++ Align d ∷ [])) (hung_row m count r a t is second size)

-- the first slot, and the headers on its line and bodies
lines_row : (m : Marks) (count : ℕ) (r h t : Filled) (a : List Doc) → ((f : Fill) → r f ≡ a ++ (h f ++ t f)) → m.first ≡ length a →
    ((f : Fill) → m.bodies ≡ m.first + length (h f)) → ((f : Fill) → count ≡ length (r f)) → row_to 2 m count r Lines ≡ seq (h fill.Space ++ t m.fill)
lines_row m count r h t a is first bodies size =
    row_is 1 m count r Lines (h fill.Space) (t m.fill)
    (slice_middle a (h fill.Space) (t fill.Space) (r fill.Space) m.first m.bodies (is fill.Space) first (bodies fill.Space))
    (slice_back (a ++ h m.fill) (t m.fill) (r m.fill) m.bodies count (is m.fill ∙ sym (append_assoc a (h m.fill) (t m.fill)))
    (omega (arith, first, bodies m.fill, length-append a (h m.fill))) (size m.fill))

pub in_line_row : (m : Marks) (count : ℕ) (r h t : Filled) (a : List Doc) → ((f : Fill) → r f ≡ a ++ (h f ++ t f)) → m.first ≡ length a →
    ((f : Fill) → m.bodies ≡ m.first + length (h f)) → ((f : Fill) → count ≡ length (r f)) →
    row_doc m count r InLine ≡ seq (a ++ Nest 1 (seq (h fill.Space ++ t m.fill)) ∷ [])
in_line_row m count r h t a is first bodies size =
    row_is 2 m count r InLine a [] (slice_front a (h fill.Space ++ t fill.Space) (r fill.Space) m.first (is fill.Space) first) (slice_none (r fill.Newline) count)
    ∙ ap (λ (d : Doc). seq (a ++ Nest 1 d ∷ [])) (lines_row m count r h t a is first bodies size)

-- the first slot, and headers below one another and bodies
column_row : (m : Marks) (count : ℕ) (r b c t : Filled) (a : List Doc) → ((f : Fill) → r f ≡ a ++ (b f ++ (c f ++ t f))) → m.first ≡ length a →
    ((f : Fill) → m.second ≡ m.first + length (b f)) → ((f : Fill) → m.bodies ≡ m.second + length (c f)) → row_to 1 m count r Column ≡ seq (c fill.Newline)
column_row m count r b c t a is first second bodies =
    row_is 0 m count r Column [] (c fill.Newline) (slice_none (r fill.Space) m.second)
    (slice_middle (a ++ b fill.Newline) (c fill.Newline) (t fill.Newline) (r fill.Newline) m.second m.bodies
    (is fill.Newline ∙ sym (append_assoc a (b fill.Newline) (c fill.Newline ++ t fill.Newline)))
    (omega (arith, first, second fill.Newline, length-append a (b fill.Newline))) (bodies fill.Newline))

columns_row : (m : Marks) (count : ℕ) (r b c t : Filled) (a : List Doc) → ((f : Fill) → r f ≡ a ++ (b f ++ (c f ++ t f))) → m.first ≡ length a →
    ((f : Fill) → m.second ≡ m.first + length (b f)) → ((f : Fill) → m.bodies ≡ m.second + length (c f)) → ((f : Fill) → count ≡ length (r f)) →
    row_to 2 m count r Columns ≡ seq (b fill.Space ++ Align (seq (c fill.Newline)) ∷ t m.fill)
columns_row m count r b c t a is first second bodies size =
    row_is 1 m count r Columns (b fill.Space) (t m.fill)
    (slice_middle a (b fill.Space) (c fill.Space ++ t fill.Space) (r fill.Space) m.first m.second (is fill.Space) first (second fill.Space))
    (slice_back ((a ++ b m.fill) ++ c m.fill) (t m.fill) (r m.fill) m.bodies count
    (is m.fill ∙ sym (append_assoc a (b m.fill) (c m.fill ++ t m.fill)) ∙ sym (append_assoc (a ++ b m.fill) (c m.fill) (t m.fill)))
    (omega (arith, first, second m.fill, bodies m.fill, length-append a (b m.fill), length-append (a ++ b m.fill) (c m.fill))) (size m.fill))
    ∙ ap (λ (d : Doc). seq (b fill.Space ++ Align d ∷ t m.fill)) (column_row m count r b c t a is first second bodies)

pub in_column_row : (m : Marks) (count : ℕ) (r b c t : Filled) (a : List Doc) → ((f : Fill) → r f ≡ a ++ (b f ++ (c f ++ t f))) → m.first ≡ length a →
    ((f : Fill) → m.second ≡ m.first + length (b f)) → ((f : Fill) → m.bodies ≡ m.second + length (c f)) → ((f : Fill) → count ≡ length (r f)) →
    row_doc m count r InColumn ≡ seq (a ++ Nest 1 (seq (b fill.Space ++ Align (seq (c fill.Newline)) ∷ t m.fill)) ∷ [])
in_column_row m count r b c t a is first second bodies size =
    row_is 2 m count r InColumn a [] (slice_front a (b fill.Space ++ (c fill.Space ++ t fill.Space)) (r fill.Space) m.first (is fill.Space) first) (slice_none (r fill.Newline) count)
    ∙ ap (λ (d : Doc). seq (a ++ Nest 1 d ∷ [])) (columns_row m count r b c t a is first second bodies size)
