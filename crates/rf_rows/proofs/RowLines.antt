-- What is told of the pieces of a cell on one line passes to the rows of its layouts.
use Rattle.std.proofs.Common.{◌≡◌, ℕ, ◌+◌, ◌-◌, ◌≤◌, Bool, List, [], ◌∷◌, ◌++◌, length, map, take, drop, sym, ◌∙◌, ap, ap₂, arith}
use Rattle.std.proofs.lemmas.List.{take_rest, map-append, append-nil, append_assoc, length-map}
use Rattle.std.proofs.Math.Seq.{take-add}
use Rattle.std.specs.List.{slice_range}
use Rattle.rf_base_document.specs.Document.{Doc, Nest, Align}
use Rattle.rf_base_document.specs.Sequence.{seq}
use Rattle.rf_rows.specs.declared.pieces.Fill.{Fill}
use Rattle.rf_rows.specs.declared.pieces.Fill.TheVariants as fill
use Rattle.rf_rows.specs.declared.pieces.Piece.{Piece}
use Rattle.rf_rows.specs.declared.layouts.Row.{Row}
use Rattle.rf_rows.specs.declared.layouts.Row.TheVariants.{Dropped, Hanging, Hung, InLine, Lines, InColumn, Columns, Column}
use Rattle.rf_rows.specs.declared.layouts.Marks.{Marks}
use Rattle.rf_rows.specs.Layouts.{Filled, strip_of, strip_docs, row_doc, AreMarks}
use Rattle.rf_rows.specs.Cells.{piece_doc, filled_by}
use Rattle.rf_rows.specs.Knowing.{chain, Passes, spaced, mixed}
use Rattle.rf_rows.proofs.OneLines.{passes_is, passes_then, passes_aligned, passes_nested, chain_seq, chain_around}
use Rattle.rf_rows.proofs.Slices.{mapped_slice, slice_of_none}
use Rattle.rf_rows.proofs.Strips.{row_is_seq}
use Rattle.rf_rows.proofs.Opened.{all_sliced}

-- pieces as documents, cut
to_the_end : {A : Type 0} (xs : List A) (a n : ℕ) → n ≡ length xs → slice_range xs a n ≡ drop a xs
to_the_end xs a n is = ap (λ (m : ℕ). take (m - a) (drop a xs)) is ∙ take_rest xs a

mapped_rest : {A B : Type 0} (f : A → B) (xs : List A) (a n : ℕ) → n ≡ length xs → slice_range (map f xs) a n ≡ map f (drop a xs)
mapped_rest f xs a n is = mapped_slice f xs a n ∙ ap (map f) (to_the_end xs a n is)

mapped_front : {A B : Type 0} (f : A → B) (xs : List A) (a : ℕ) → slice_range (map f xs) 0 a ≡ map f (take a xs)
mapped_front f xs a = mapped_slice f xs 0 a ∙ ap (λ (n : ℕ). map f (take n xs)) (omega arith)

mapped_none : {A B : Type 0} (f : A → B) (xs : List A) (a : ℕ) → map f (slice_range xs a a) ≡ []
mapped_none f xs a = ap (map f) (slice_of_none xs a)

-- the first pieces up to one place are those up to an earlier one and those between
front_parts : (g : ℕ → Doc) (qs : List Piece) (a b : ℕ) → a ≤ b → spaced g (take b qs) ≡ spaced g (take a qs) ++ spaced g (slice_range qs a b)
front_parts g qs a b order =
    ap (λ (n : ℕ). spaced g (take n qs)) (sum a b order) ∙ ap (spaced g) (take-add a (b - a) qs) ∙ map-append (piece_doc g fill.Space) (take a qs) (slice_range qs a b)
  where
    sum : (a b : ℕ) → a ≤ b → b ≡ a + (b - a)
    sum a b order = omega (arith, order)

-- the documents of a row, told as a sequence of lists
by_docs : (m : Marks) (count : ℕ) (r : Filled) (row : Row) (ds : List Doc) → strip_docs r (row_doc m count r) (strip_of m count row) ≡ ds → row_doc m count r row ≡ seq ds
by_docs m count r row ds is = row_is_seq m count r row ∙ ap seq is

abbrev Row_of : (ℕ → Doc) → List Piece → Marks → ℕ → Row → Doc
Row_of g qs m count row = row_doc m count (filled_by g qs) row

-- the rows that stand in others
hung_is : (g : ℕ → Doc) (qs : List Piece) (m : Marks) (count : ℕ) → count ≡ length qs → Row_of g qs m count Hung ≡ seq (map (piece_doc g fill.Newline) (drop m.second qs))
hung_is g qs m count is =
    by_docs m count (filled_by g qs) Hung (map (piece_doc g fill.Newline) (drop m.second qs))
    (ap₂ (λ (xs ys : List Doc). xs ++ ys) (mapped_slice (piece_doc g fill.Space) qs m.second m.second ∙ mapped_none (piece_doc g fill.Space) qs m.second)
    (mapped_rest (piece_doc g fill.Newline) qs m.second count is))

lines_is : (g : ℕ → Doc) (qs : List Piece) (m : Marks) (count : ℕ) → count ≡ length qs →
    Row_of g qs m count Lines ≡ seq (spaced g (slice_range qs m.first m.bodies) ++ map (piece_doc g m.fill) (drop m.bodies qs))
lines_is g qs m count is =
    by_docs m count (filled_by g qs) Lines (spaced g (slice_range qs m.first m.bodies) ++ map (piece_doc g m.fill) (drop m.bodies qs))
    (ap₂ (λ (xs ys : List Doc). xs ++ ys) (mapped_slice (piece_doc g fill.Space) qs m.first m.bodies) (mapped_rest (piece_doc g m.fill) qs m.bodies count is))

column_is : (g : ℕ → Doc) (qs : List Piece) (m : Marks) (count : ℕ) → Row_of g qs m count Column ≡ seq (map (piece_doc g fill.Newline) (slice_range qs m.second m.bodies))
column_is g qs m count =
    by_docs m count (filled_by g qs) Column (map (piece_doc g fill.Newline) (slice_range qs m.second m.bodies))
    (ap₂ (λ (xs ys : List Doc). xs ++ ys) (mapped_slice (piece_doc g fill.Space) qs m.second m.second ∙ mapped_none (piece_doc g fill.Space) qs m.second)
    (mapped_slice (piece_doc g fill.Newline) qs m.second m.bodies))

columns_is : (g : ℕ → Doc) (qs : List Piece) (m : Marks) (count : ℕ) → count ≡ length qs →
    Row_of g qs m count Columns ≡ seq (spaced g (slice_range qs m.first m.second) ++ (Align (Row_of g qs m count Column) ∷ map (piece_doc g m.fill) (drop m.bodies qs)))
columns_is g qs m count is =
    by_docs m count (filled_by g qs) Columns (spaced g (slice_range qs m.first m.second) ++ (Align (Row_of g qs m count Column) ∷ map (piece_doc g m.fill) (drop m.bodies qs)))
    (ap₂ (λ (xs ys : List Doc). xs ++ (Align (Row_of g qs m count Column) ∷ ys)) (mapped_slice (piece_doc g fill.Space) qs m.first m.second)
    (mapped_rest (piece_doc g m.fill) qs m.bodies count is))

nothing_left : (g : ℕ → Doc) (f : Fill) (qs : List Piece) (count : ℕ) → slice_range (map (piece_doc g f) qs) count count ≡ []
nothing_left g f qs count = slice_of_none (map (piece_doc g f) qs) count

-- a row of its first pieces before another row
before_is : (g : ℕ → Doc) (qs : List Piece) (a count : ℕ) (d : Doc) →
    slice_range (map (piece_doc g fill.Space) qs) 0 a ++ (d ∷ slice_range (map (piece_doc g fill.Newline) qs) count count) ≡ spaced g (take a qs) ++ (d ∷ [])
before_is g qs a count d = ap₂ (λ (xs ys : List Doc). xs ++ (d ∷ ys)) (mapped_front (piece_doc g fill.Space) qs a) (nothing_left g fill.Newline qs count)

passes_before : (g : ℕ → Doc) (qs : List Piece) (a : ℕ) (ys : List Doc) (d : Doc) (flat : Bool) → Passes (chain ys) d flat → Passes (chain (spaced g (take a qs) ++ ys)) (seq (spaced g (take a qs) ++ (d ∷ []))) flat
passes_before g qs a ys d flat p =
    passes_then (chain (spaced g (take a qs) ++ ys)) (chain (spaced g (take a qs) ++ (ys ++ []))) (seq (spaced g (take a qs) ++ (d ∷ []))) flat
    (passes_is (chain (spaced g (take a qs) ++ ys)) (chain (spaced g (take a qs) ++ (ys ++ []))) flat (ap (λ (xs : List Doc). chain (spaced g (take a qs) ++ xs)) (sym (append-nil ys))))
    (chain_around (spaced g (take a qs)) ys [] d flat p)

by_seq : (ys : List Doc) (d : Doc) (flat : Bool) → d ≡ seq ys → Passes (chain ys) d flat
by_seq ys d flat is = passes_then (chain ys) (seq ys) d flat (chain_seq ys flat) (passes_is (seq ys) d flat (sym is))

-- the rows of all pieces
pub dropped_passes : (g : ℕ → Doc) (qs : List Piece) (m : Marks) (count : ℕ) (flat : Bool) → count ≡ length qs → Passes (chain (mixed g qs 0 0 fill.Newline)) (Row_of g qs m count Dropped) flat
dropped_passes g qs m count flat is =
    by_seq (map (piece_doc g fill.Newline) qs) (Row_of g qs m count Dropped) flat
    (by_docs m count (filled_by g qs) Dropped (map (piece_doc g fill.Newline) qs) (all_sliced (map (piece_doc g fill.Newline) qs) count (is ∙ sym (length-map qs (piece_doc g fill.Newline)))))

pub hanging_passes : (g : ℕ → Doc) (qs : List Piece) (m : Marks) (count : ℕ) (flat : Bool) → count ≡ length qs →
    Passes (chain (mixed g qs m.second m.second fill.Newline)) (Row_of g qs m count Hanging) flat
hanging_passes g qs m count flat is =
    passes_then (chain (mixed g qs m.second m.second fill.Newline)) (chain (spaced g (take m.second qs) ++ map (piece_doc g fill.Newline) (drop m.second qs))) (Row_of g qs m count Hanging) flat
    (passes_is (chain (mixed g qs m.second m.second fill.Newline)) (chain (spaced g (take m.second qs) ++ map (piece_doc g fill.Newline) (drop m.second qs))) flat
    (ap (λ (xs : List Doc). chain (spaced g (take m.second qs) ++ (xs ++ map (piece_doc g fill.Newline) (drop m.second qs)))) (mapped_none (piece_doc g fill.Newline) qs m.second)))
    (passes_then (chain (spaced g (take m.second qs) ++ map (piece_doc g fill.Newline) (drop m.second qs))) (seq (spaced g (take m.second qs) ++ (Align (Row_of g qs m count Hung) ∷ []))) (Row_of g qs m count Hanging) flat
    (passes_before g qs m.second (map (piece_doc g fill.Newline) (drop m.second qs)) (Align (Row_of g qs m count Hung)) flat
    (passes_aligned (chain (map (piece_doc g fill.Newline) (drop m.second qs))) (Row_of g qs m count Hung) flat (by_seq (map (piece_doc g fill.Newline) (drop m.second qs)) (Row_of g qs m count Hung) flat (hung_is g qs m count is))))
    (passes_is (seq (spaced g (take m.second qs) ++ (Align (Row_of g qs m count Hung) ∷ []))) (Row_of g qs m count Hanging) flat
    (sym (by_docs m count (filled_by g qs) Hanging (spaced g (take m.second qs) ++ (Align (Row_of g qs m count Hung) ∷ [])) (before_is g qs m.second count (Align (Row_of g qs m count Hung)))))))

pub in_line_passes : (g : ℕ → Doc) (qs : List Piece) (m : Marks) (count : ℕ) (flat : Bool) → count ≡ length qs → AreMarks m count →
    Passes (chain (mixed g qs m.bodies m.bodies m.fill)) (Row_of g qs m count InLine) flat
in_line_passes g qs m count flat is h =
    passes_then (chain (mixed g qs m.bodies m.bodies m.fill)) (chain (front ++ inner)) (Row_of g qs m count InLine) flat
    (passes_is (chain (mixed g qs m.bodies m.bodies m.fill)) (chain (front ++ inner)) flat (ap chain together))
    (passes_then (chain (front ++ inner)) (seq (front ++ (d ∷ []))) (Row_of g qs m count InLine) flat
    (passes_before g qs m.first inner d flat (passes_nested 1 (chain inner) (Row_of g qs m count Lines) flat (by_seq inner (Row_of g qs m count Lines) flat (lines_is g qs m count is))))
    (passes_is (seq (front ++ (d ∷ []))) (Row_of g qs m count InLine) flat (sym (by_docs m count (filled_by g qs) InLine (front ++ (d ∷ [])) (before_is g qs m.first count d)))))
  where
    front : List Doc
    front = spaced g (take m.first qs)

    bodies : List Doc
    bodies = map (piece_doc g m.fill) (drop m.bodies qs)

    inner : List Doc
    inner = spaced g (slice_range qs m.first m.bodies) ++ bodies

    d : Doc
    d = Nest 1 (Row_of g qs m count Lines)

    together : mixed g qs m.bodies m.bodies m.fill ≡ front ++ inner
    together =
        ap₂ (λ (xs ys : List Doc). xs ++ (ys ++ bodies)) (front_parts g qs m.first m.bodies (omega (arith, h.first, h.second))) (mapped_none (piece_doc g fill.Newline) qs m.bodies)
        ∙ append_assoc front (spaced g (slice_range qs m.first m.bodies)) bodies

pub in_column_passes : (g : ℕ → Doc) (qs : List Piece) (m : Marks) (count : ℕ) (flat : Bool) → count ≡ length qs → AreMarks m count →
    Passes (chain (mixed g qs m.second m.bodies m.fill)) (Row_of g qs m count InColumn) flat
in_column_passes g qs m count flat is h =
    passes_then (chain (mixed g qs m.second m.bodies m.fill)) (chain (front ++ inner)) (Row_of g qs m count InColumn) flat
    (passes_is (chain (mixed g qs m.second m.bodies m.fill)) (chain (front ++ inner)) flat (ap chain together))
    (passes_then (chain (front ++ inner)) (seq (front ++ (d ∷ []))) (Row_of g qs m count InColumn) flat
    (passes_before g qs m.first inner d flat (passes_nested 1 (chain inner) (Row_of g qs m count Columns) flat columns))
    (passes_is (seq (front ++ (d ∷ []))) (Row_of g qs m count InColumn) flat (sym (by_docs m count (filled_by g qs) InColumn (front ++ (d ∷ [])) (before_is g qs m.first count d)))))
  where
    front : List Doc
    front = spaced g (take m.first qs)

    between : List Doc
    between = spaced g (slice_range qs m.first m.second)

    middle : List Doc
    middle = map (piece_doc g fill.Newline) (slice_range qs m.second m.bodies)

    bodies : List Doc
    bodies = map (piece_doc g m.fill) (drop m.bodies qs)

    inner : List Doc
    inner = between ++ (middle ++ bodies)

    d : Doc
    d = Nest 1 (Row_of g qs m count Columns)

    column : Doc
    column = Align (Row_of g qs m count Column)

    columns : Passes (chain inner) (Row_of g qs m count Columns) flat
    columns =
        passes_then (chain inner) (seq (between ++ (column ∷ bodies))) (Row_of g qs m count Columns) flat
        (chain_around between middle bodies column flat (passes_aligned (chain middle) (Row_of g qs m count Column) flat (by_seq middle (Row_of g qs m count Column) flat (column_is g qs m count))))
        (passes_is (seq (between ++ (column ∷ bodies))) (Row_of g qs m count Columns) flat (sym (columns_is g qs m count is)))

    together : mixed g qs m.second m.bodies m.fill ≡ front ++ inner
    together = ap (λ (xs : List Doc). xs ++ (middle ++ bodies)) (front_parts g qs m.first m.second h.first) ∙ append_assoc front between (middle ++ bodies)
