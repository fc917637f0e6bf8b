-- The layouts of a list are rows of its body's pieces.
use Rattle.std.proofs.Common.{◌≡◌, ℕ, zero, suc, ◌+◌, ◌-◌, Bool, true, false, Option, Some, List, [], ◌∷◌, ◌++◌, length, take, drop, slice_get, refl, sym, ap, ap₂, ◌∙◌, subst, append_assoc, append-nil, length-append, arith}
use Rattle.std.specs.Prelude.{leb, if◌then◌else◌}
use Rattle.std.proofs.lemmas.List.{take-append-drop}
use Rattle.rf_base_document.specs.Document.{Doc, Nest, Align, Choice}
use Rattle.rf_base_document.specs.Sequence.{seq}
use Rattle.rf_base_grammar.specs.Token.{Token}
use Rattle.rf_base_grammar.specs.Woven.{trails}
use Rattle.rf_base_style.specs.declared.rules.Charges.{Charges}
use Rattle.rf_base_tree.specs.Cut.{needs_break, needs_gap, as_wanted}
use Rattle.rf_base_tree.specs.declared.separators.Want.{Want}
use Rattle.rf_base_tree.specs.declared.separators.Want.TheVariants as want
use Rattle.rf_base_file.specs.declared.shapes.Shape.{Shape}
use Rattle.rf_base_file.specs.declared.shapes.Shape.TheVariants as shape
use Rattle.rf_base_file.specs.Rows.{Part, Step, step, separator_docs, docs_between, gap_docs, steps_docs, steps_last, steps_wanting, inner_docs}
use Rattle.rf_base_file.specs.Shapes.{Slots, drop_doc, hang_doc, in_line_doc, column_part, column_docs, in_column_doc, body_want, charged, choice_of, line_layouts, shape_doc}
use Rattle.rf_base_file.proofs.FileParagraphs.{last-append}
use Rattle.rf_base_lines.proofs.SpelledRows.{steps_append}
use Rattle.rf_rows.specs.declared.pieces.Fill.{Fill}
use Rattle.rf_rows.specs.declared.pieces.Fill.TheVariants as fill
use Rattle.rf_rows.specs.declared.layouts.Row.{Row}
use Rattle.rf_rows.specs.declared.layouts.Row.TheVariants.{Dropped, Hanging, InLine, InColumn}
use Rattle.rf_rows.specs.declared.layouts.Marks.{Marks}
use Rattle.rf_rows.specs.Layouts.{Filled, row_doc, flattened, layout_doc, cell_doc}
use Rattle.rf_slot_rows.specs.Bodies.{want_of, free_steps, free_inner, first_docs, second_gap, headers_docs, more_headers, body_fill, marks_at, layout, body_layouts, layouts_of}
use Rattle.rf_slot_rows.specs.declared.layouts.Places.{Places}
use Rattle.rf_slot_rows.proofs.FreeGaps.{by_tests}
use Rattle.rf_slot_rows.proofs.RowsOf.{dropped_row, hanging_row, in_line_row, in_column_row}

-- the body of a list of two slots or more
abbrev pub body_pieces : List Token → Slots → Filled
body_pieces ts l =
    λ f. first_docs ts l.opener l.first
    ++ (second_gap ts l.first.last l.second.first f ++ l.second.doc ∷ free_inner ts l.second.last l.others l.closer f)

-- the heights of the slots of a list in which so many headers stand behind the second slot, above this height
abbrev pub places_of : List Token → Slots → ℕ → ℕ → Places
places_of ts l more height =
    let first : ℕ = height + length (first_docs ts l.opener l.first) in
    let second : ℕ = first + length (second_gap ts l.first.last l.second.first fill.Newline) in
    let headers : Filled = headers_docs ts l.second.last (take more l.others) (drop more l.others) l.closer in
    record { first = first; second = second; bodies = second + 1 + length (headers fill.Newline) }

-- a gap between slots has as many pieces however it is filled
one_piece : (needs : Bool) (f : Fill) → length (separator_docs (as_wanted needs (want_of f))) ≡ 1
one_piece true fill.Space = refl
one_piece false fill.Space = refl
one_piece true fill.Newline = refl
one_piece false fill.Newline = refl
one_piece true fill.Hard = refl
one_piece false fill.Hard = refl

tests_length : (trailing broken needs : Bool) (blanks : ℕ) (f g : Fill) →
    length (separator_docs (by_tests trailing broken needs blanks (want_of f))) ≡ length (separator_docs (by_tests trailing broken needs blanks (want_of g)))
tests_length false false needs blanks f g = one_piece needs f ∙ sym (one_piece needs g)
tests_length _ _ needs blanks f g = refl

between_length : (a b : Option Token) (f g : Fill) → length (docs_between a b (want_of f)) ≡ length (docs_between a b (want_of g))
between_length (Some a) (Some b) f g = tests_length (trails b) (needs_break a b) (needs_gap a.kind a.spelling b.spelling) b.blanks f g
between_length _ _ f g = refl

pub gap_length : (ts : List Token) (before next : ℕ) (f g : Fill) → length (second_gap ts before next f) ≡ length (second_gap ts before next g)
gap_length ts before next f g = between_length (slice_get ts before) (slice_get ts next) f g

-- the last item of slots doesn't depend on what is wanted
pub last_same : (w v : Want) (before : ℕ) (parts : List Part) → steps_last before (steps_wanting w parts) ≡ steps_last before (steps_wanting v parts)
unfolding steps_last
last_same w v before [] = refl
last_same w v before (p ∷ parts) = last_same w v p.last parts

-- and so have slots
pub steps_length : (ts : List Token) (before : ℕ) (parts : List Part) (f g : Fill) → length (free_steps ts before parts f) ≡ length (free_steps ts before parts g)
unfolding steps_docs
steps_length ts before [] f g = refl
steps_length ts before (p ∷ parts) f g =
    length-append (second_gap ts before p.first f) (p.doc ∷ free_steps ts p.last parts f)
    ∙ ap₂ (λ (m n : ℕ). m + suc n) (gap_length ts before p.first f g) (steps_length ts p.last parts f g)
    ∙ sym (length-append (second_gap ts before p.first g) (p.doc ∷ free_steps ts p.last parts g))

inner_length : (ts : List Token) (before : ℕ) (parts : List Part) (closer : ℕ) (f g : Fill) → length (free_inner ts before parts closer f) ≡ length (free_inner ts before parts closer g)
inner_length ts before parts closer f g =
    length-append (free_steps ts before parts f) (gap_docs ts (steps_last before (steps_wanting (want_of f) parts)) closer want.Nothing)
    ∙ ap₂ (λ (m n : ℕ). m + n) (steps_length ts before parts f g)
    (ap (λ (k : ℕ). length (gap_docs ts k closer want.Nothing)) (last_same (want_of f) (want_of g) before parts))
    ∙ sym (length-append (free_steps ts before parts g) (gap_docs ts (steps_last before (steps_wanting (want_of g) parts)) closer want.Nothing))

pub headers_length : (ts : List Token) (before : ℕ) (heads bodies : List Part) (closer : ℕ) (f g : Fill) →
    length (headers_docs ts before heads bodies closer f) ≡ length (headers_docs ts before heads bodies closer g)
headers_length ts before heads [] closer f g = inner_length ts before heads closer f g
headers_length ts before heads (b ∷ bodies) closer f g = steps_length ts before heads f g

pub inner-append : (ts : List Token) (before : ℕ) (s t : List Step) (closer : ℕ) → inner_docs ts before (s ++ t) closer ≡ steps_docs ts before s ++ inner_docs ts (steps_last before s) t closer
inner-append ts before s t closer =
    ap₂ (λ (ds : List Doc) (k : ℕ). ds ++ gap_docs ts k closer want.Nothing) (steps_append ts before s t) (last-append before s t)
    ∙ append_assoc (steps_docs ts before s) (steps_docs ts (steps_last before s) t) (gap_docs ts (steps_last (steps_last before s) t) closer want.Nothing)

pub wanting-append : (w : Want) (a b : List Part) → steps_wanting w (a ++ b) ≡ steps_wanting w a ++ steps_wanting w b
wanting-append w [] b = refl
wanting-append w (p ∷ a) b = ap (λ (s : List Step). step w p ∷ s) (wanting-append w a b)

-- a step before others
pub inner_more : (ts : List Token) (before : ℕ) (w : Want) (p : Part) (s : List Step) (closer : ℕ) →
    inner_docs ts before (step w p ∷ s) closer ≡ gap_docs ts before p.first w ++ p.doc ∷ inner_docs ts p.last s closer
unfolding steps_docs steps_last
inner_more ts before w p s closer =
    append_assoc (gap_docs ts before p.first w) (p.doc ∷ steps_docs ts p.last s) (gap_docs ts (steps_last p.last s) closer want.Nothing)

-- bodies behind headers
abbrev pub bodies_docs : List Token → ℕ → List Part → List Part → ℕ → Filled
bodies_docs ts before heads [] closer = λ f. []
bodies_docs ts before heads (b ∷ bodies) closer = free_inner ts (steps_last before (steps_wanting want.Line heads)) (b ∷ bodies) closer

line_is : (ts : List Token) (before : ℕ) (heads bodies : List Part) (closer : ℕ) (f g : Fill) →
    inner_docs ts before (steps_wanting (want_of f) heads ++ steps_wanting (want_of g) bodies) closer
    ≡ headers_docs ts before heads bodies closer f ++ bodies_docs ts before heads bodies closer g
line_is ts before heads [] closer f g =
    ap (λ (s : List Step). inner_docs ts before s closer) (append-nil (steps_wanting (want_of f) heads))
    ∙ sym (append-nil (free_inner ts before heads closer f))
line_is ts before heads (b ∷ bodies) closer f g =
    inner-append ts before (steps_wanting (want_of f) heads) (steps_wanting (want_of g) (b ∷ bodies)) closer
    ∙ ap (λ (k : ℕ). free_steps ts before heads f ++ inner_docs ts k (steps_wanting (want_of g) (b ∷ bodies)) closer) (last_same (want_of f) want.Line before heads)

pub split_is : (ts : List Token) (before : ℕ) (heads bodies : List Part) (closer : ℕ) (f : Fill) →
    free_inner ts before (heads ++ bodies) closer f ≡ headers_docs ts before heads bodies closer f ++ bodies_docs ts before heads bodies closer f
split_is ts before heads bodies closer f =
    ap (λ (s : List Step). inner_docs ts before s closer) (wanting-append (want_of f) heads bodies) ∙ line_is ts before heads bodies closer f f

column_is : (ts : List Token) (l : Slots) (heads bodies : List Part) (f : Fill) →
    column_docs ts l heads (want_of f) bodies
    ≡ second_gap ts l.first.last l.second.first fill.Space
    ++ Align (seq (l.second.doc ∷ headers_docs ts l.second.last heads bodies l.closer fill.Newline)) ∷ bodies_docs ts l.second.last heads bodies l.closer f
column_is ts l heads [] f = refl
column_is ts l heads (b ∷ bodies) f =
    inner_more ts l.first.last want.Space (column_part ts l.second heads) (steps_wanting (want_of f) (b ∷ bodies)) l.closer

-- the body of a list, whole and cut
pieces_are : (ts : List Token) (l : Slots) (f : Fill) →
    body_pieces ts l f ≡ inner_docs ts l.opener (step want.Nothing l.first ∷ steps_wanting (want_of f) (l.second ∷ l.others)) l.closer
unfolding steps_docs
pieces_are ts l f =
    append_assoc (gap_docs ts l.opener l.first.first want.Nothing) (l.first.doc ∷ []) (second_gap ts l.first.last l.second.first f ++ l.second.doc ∷ free_inner ts l.second.last l.others l.closer f)
    ∙ ap (λ (ds : List Doc). gap_docs ts l.opener l.first.first want.Nothing ++ l.first.doc ∷ ds) (sym (inner_more ts l.first.last (want_of f) l.second (steps_wanting (want_of f) l.others) l.closer))
    ∙ sym (inner_more ts l.opener want.Nothing l.first (steps_wanting (want_of f) (l.second ∷ l.others)) l.closer)

others_are : (ts : List Token) (l : Slots) (heads bodies : List Part) (f : Fill) → l.others ≡ heads ++ bodies →
    free_inner ts l.second.last l.others l.closer f ≡ headers_docs ts l.second.last heads bodies l.closer f ++ bodies_docs ts l.second.last heads bodies l.closer f
others_are ts l heads bodies f is =
    ap (λ (ps : List Part). free_inner ts l.second.last ps l.closer f) is ∙ split_is ts l.second.last heads bodies l.closer f

-- as many pieces however gaps are filled
count_same : (ts : List Token) (l : Slots) (f g : Fill) → length (body_pieces ts l f) ≡ length (body_pieces ts l g)
count_same ts l f g =
    length-append (first_docs ts l.opener l.first) _
    ∙ ap (λ (n : ℕ). length (first_docs ts l.opener l.first) + n)
    (length-append (second_gap ts l.first.last l.second.first f) (l.second.doc ∷ free_inner ts l.second.last l.others l.closer f)
    ∙ ap₂ (λ (m n : ℕ). m + suc n) (gap_length ts l.first.last l.second.first f g) (inner_length ts l.second.last l.others l.closer f g)
    ∙ sym (length-append (second_gap ts l.first.last l.second.first g) (l.second.doc ∷ free_inner ts l.second.last l.others l.closer g)))
    ∙ sym (length-append (first_docs ts l.opener l.first) (second_gap ts l.first.last l.second.first g ++ l.second.doc ∷ free_inner ts l.second.last l.others l.closer g))

-- each layout
pub drop_is : (ts : List Token) (l : Slots) (m : Marks) (count : ℕ) → count ≡ length (body_pieces ts l fill.Newline) →
    Align (row_doc m count (body_pieces ts l) Dropped) ≡ drop_doc ts l.opener l.first (l.second ∷ l.others) l.closer
drop_is ts l m count size =
    ap (λ (d : Doc). Align d) (dropped_row m count (body_pieces ts l) size ∙ ap seq (pieces_are ts l fill.Newline))

pub hang_is : (ts : List Token) (l : Slots) (m : Marks) (count : ℕ) → count ≡ length (body_pieces ts l fill.Newline) →
    m.second ≡ length (first_docs ts l.opener l.first) + length (second_gap ts l.first.last l.second.first fill.Newline) →
    Align (row_doc m count (body_pieces ts l) Hanging) ≡ hang_doc ts l
hang_is ts l m count size second =
    let a : List Doc = first_docs ts l.opener l.first in
    let gap : Filled = second_gap ts l.first.last l.second.first in
    let rest : Filled = λ f. l.second.doc ∷ free_inner ts l.second.last l.others l.closer f in
    ap (λ (d : Doc). Align d)
    (hanging_row m count (body_pieces ts l) (λ f. a ++ gap f) rest (λ f. sym (append_assoc a (gap f) (rest f)))
    (λ f. omega (arith, second, length-append a (gap f), gap_length ts l.first.last l.second.first f fill.Newline)) size
    ∙ ap seq (append_assoc a (gap fill.Space) (Align (seq (rest fill.Newline)) ∷ [])))

-- headers and bodies, where the second slot is a header
pub line_layout_is : (ts : List Token) (l : Slots) (m : Marks) (count k : ℕ) → ((f : Fill) → count ≡ length (body_pieces ts l f)) →
    m.first ≡ length (first_docs ts l.opener l.first) →
    m.bodies ≡ length (first_docs ts l.opener l.first) + length (second_gap ts l.first.last l.second.first fill.Newline) + 1
    + length (headers_docs ts l.second.last (take k l.others) (drop k l.others) l.closer fill.Newline) →
    Align (row_doc m count (body_pieces ts l) InLine) ≡ in_line_doc ts l (suc k) (want_of m.fill)
line_layout_is ts l m count k size first bodies =
    ap (λ (d : Doc). Align d)
    (in_line_row m count (body_pieces ts l) h t a cut first
    (λ f. omega (
      arith,
      first,
      bodies,
      length-append (gap f) (l.second.doc ∷ heads f),
      gap_length ts l.first.last l.second.first f fill.Newline,
      headers_length ts l.second.last (take k l.others) (drop k l.others) l.closer f fill.Newline,
    )) size
    ∙ ap (λ (ds : List Doc). seq (a ++ Nest 1 (seq ds) ∷ [])) inside)
  where
    a : List Doc
    a = first_docs ts l.opener l.first

    gap : Filled
    gap = second_gap ts l.first.last l.second.first

    heads : Filled
    heads = headers_docs ts l.second.last (take k l.others) (drop k l.others) l.closer

    h : Filled
    h = λ f. gap f ++ l.second.doc ∷ heads f

    t : Filled
    t = bodies_docs ts l.second.last (take k l.others) (drop k l.others) l.closer

    cut : (f : Fill) → body_pieces ts l f ≡ a ++ (h f ++ t f)
    cut f =
        ap (λ (ds : List Doc). a ++ (gap f ++ l.second.doc ∷ ds)) (others_are ts l (take k l.others) (drop k l.others) f (sym (take-append-drop k l.others)))
        ∙ ap (λ (ds : List Doc). a ++ ds) (sym (append_assoc (gap f) (l.second.doc ∷ heads f) (t f)))

    inside : h fill.Space ++ t m.fill
        ≡ inner_docs ts l.first.last (steps_wanting want.Space (take (suc k) (l.second ∷ l.others)) ++ steps_wanting (want_of m.fill) (drop (suc k) (l.second ∷ l.others))) l.closer
    inside =
        append_assoc (gap fill.Space) (l.second.doc ∷ heads fill.Space) (t m.fill)
        ∙ ap (λ (ds : List Doc). gap fill.Space ++ l.second.doc ∷ ds) (sym (line_is ts l.second.last (take k l.others) (drop k l.others) l.closer fill.Space m.fill))
        ∙ sym (inner_more ts l.first.last want.Space l.second (steps_wanting want.Space (take k l.others) ++ steps_wanting (want_of m.fill) (drop k l.others)) l.closer)

pub column_layout_is : (ts : List Token) (l : Slots) (m : Marks) (count k : ℕ) → ((f : Fill) → count ≡ length (body_pieces ts l f)) →
    m.first ≡ length (first_docs ts l.opener l.first) →
    m.second ≡ length (first_docs ts l.opener l.first) + length (second_gap ts l.first.last l.second.first fill.Newline) →
    m.bodies ≡ m.second + 1 + length (headers_docs ts l.second.last (take k l.others) (drop k l.others) l.closer fill.Newline) →
    Align (row_doc m count (body_pieces ts l) InColumn) ≡ in_column_doc ts l k (want_of m.fill)
column_layout_is ts l m count k size first second bodies =
    ap (λ (d : Doc). Align d)
    (in_column_row m count (body_pieces ts l) gap c t a cut first
    (λ f. omega (arith, first, second, gap_length ts l.first.last l.second.first f fill.Newline))
    (λ f. omega (arith, bodies, headers_length ts l.second.last (take k l.others) (drop k l.others) l.closer f fill.Newline)) size
    ∙ ap (λ (ds : List Doc). seq (a ++ Nest 1 (seq ds) ∷ [])) (sym (column_is ts l (take k l.others) (drop k l.others) m.fill)))
  where
    a : List Doc
    a = first_docs ts l.opener l.first

    gap : Filled
    gap = second_gap ts l.first.last l.second.first

    c : Filled
    c = λ f. l.second.doc ∷ headers_docs ts l.second.last (take k l.others) (drop k l.others) l.closer f

    t : Filled
    t = bodies_docs ts l.second.last (take k l.others) (drop k l.others) l.closer

    cut : (f : Fill) → body_pieces ts l f ≡ a ++ (gap f ++ (c f ++ t f))
    cut f = ap (λ (ds : List Doc). a ++ (gap f ++ l.second.doc ∷ ds)) (others_are ts l (take k l.others) (drop k l.others) f (sym (take-append-drop k l.others)))

-- without a header each slot behind the first one is a body
pub bodies_layout_is : (ts : List Token) (l : Slots) (m : Marks) (count : ℕ) → ((f : Fill) → count ≡ length (body_pieces ts l f)) →
    m.first ≡ length (first_docs ts l.opener l.first) → m.bodies ≡ m.first →
    Align (row_doc m count (body_pieces ts l) InLine) ≡ in_line_doc ts l 0 (want_of m.fill)
bodies_layout_is ts l m count size first bodies =
    let a : List Doc = first_docs ts l.opener l.first in
    let t : Filled = λ f. second_gap ts l.first.last l.second.first f ++ l.second.doc ∷ free_inner ts l.second.last l.others l.closer f in
    ap (λ (d : Doc). Align d)
    (in_line_row m count (body_pieces ts l) (λ f. []) t a (λ f. refl) first (λ f. omega (arith, bodies)) size
    ∙ ap (λ (ds : List Doc). seq (a ++ Nest 1 (seq ds) ∷ [])) (sym (inner_more ts l.first.last (want_of m.fill) l.second (steps_wanting (want_of m.fill) l.others) l.closer)))

-- layouts with what is charged for them
laid : (m : Marks) (count : ℕ) (r : Filled) (row : Row) (flat : Bool) (charge : ℕ) (d : Doc) → Align (row_doc m count r row) ≡ d →
    layout_doc m count r (layout row flat charge) ≡ charged charge (flattened flat d)
laid m count r row flat charge d is = ap (λ (x : Doc). charged charge (flattened flat x)) is

-- what is wanted before bodies
want_is : (headers : ℕ) (one_line : Bool) → want_of (body_fill (shape.Body headers one_line)) ≡ body_want one_line
want_is headers true = refl
want_is headers false = refl

body_is : (ts : List Token) (l : Slots) (m : Marks) (count headers : ℕ) (column one_line : Bool) (charges : Charges) (w : Want) →
    Align (row_doc m count (body_pieces ts l) InLine) ≡ in_line_doc ts l headers w →
    (column ≡ true → Align (row_doc m count (body_pieces ts l) InColumn) ≡ in_column_doc ts l (headers - 1) w) →
    cell_doc m count (body_pieces ts l) (body_layouts column one_line charges)
    ≡ choice_of (charged charges.broken (in_line_doc ts l headers w))
    ((if column then charged charges.hung (in_column_doc ts l (headers - 1) w) ∷ [] else []) ++ line_layouts one_line (in_line_doc ts l headers w) charges.flat)
unfolding cell_doc choice_of
body_is ts l m count headers true true charges w line column =
    ap₂ (λ (a b : Doc). Choice a b) (laid m count (body_pieces ts l) InLine false charges.broken _ line)
    (ap₂ (λ (a b : Doc). Choice a b) (laid m count (body_pieces ts l) InColumn false charges.hung _ (column refl)) (laid m count (body_pieces ts l) InLine true charges.flat _ line))
body_is ts l m count headers true false charges w line column =
    ap₂ (λ (a b : Doc). Choice a b) (laid m count (body_pieces ts l) InLine false charges.broken _ line) (laid m count (body_pieces ts l) InColumn false charges.hung _ (column refl))
body_is ts l m count headers false true charges w line column =
    ap₂ (λ (a b : Doc). Choice a b) (laid m count (body_pieces ts l) InLine false charges.broken _ line) (laid m count (body_pieces ts l) InLine true charges.flat _ line)
body_is ts l m count headers false false charges w line column = laid m count (body_pieces ts l) InLine false charges.broken _ line

-- the choice among the layouts of a list
pub shape_is : (ts : List Token) (l : Slots) (s : Shape) (charges : Charges) (height count : ℕ) → count ≡ length (body_pieces ts l fill.Newline) →
    cell_doc (marks_at s height (places_of ts l (more_headers s) height)) count (body_pieces ts l) (layouts_of s charges) ≡ shape_doc s charges ts l
unfolding cell_doc choice_of
shape_is ts l shape.Application charges height count size =
    let m : Marks = marks_at shape.Application height (places_of ts l 0 height) in
    let dropped = drop_is ts l m count size in
    let hung = hang_is ts l m count size (omega arith) in
    ap₂ (λ (a b : Doc). Choice a b) (laid m count (body_pieces ts l) Dropped false charges.broken _ dropped)
    (ap₂ (λ (a b : Doc). Choice a b) (laid m count (body_pieces ts l) Hanging false charges.hung _ hung) (laid m count (body_pieces ts l) Dropped true charges.flat _ dropped))
shape_is ts l shape.Hanging charges height count size =
    let m : Marks = marks_at shape.Hanging height (places_of ts l 0 height) in
    ap₂ (λ (a b : Doc). Choice a b) (laid m count (body_pieces ts l) Hanging false charges.hung _ (hang_is ts l m count size (omega arith)))
    (laid m count (body_pieces ts l) Dropped true charges.flat _ (drop_is ts l m count size))
shape_is ts l shape.Plain charges height count size =
    let m : Marks = marks_at shape.Plain height (places_of ts l 0 height) in
    ap₂ (λ (a b : Doc). Choice a b) (laid m count (body_pieces ts l) Dropped false charges.broken _ (drop_is ts l m count size))
    (laid m count (body_pieces ts l) Dropped true charges.flat _ (drop_is ts l m count size))
shape_is ts l (shape.Body zero one_line) charges height count size =
    let s : Shape = shape.Body zero one_line in
    let m : Marks = marks_at s height (places_of ts l (more_headers s) height) in
    let all : (f : Fill) → count ≡ length (body_pieces ts l f) = λ f. size ∙ count_same ts l fill.Newline f in
    body_is ts l m count 0 false one_line charges (body_want one_line)
    (bodies_layout_is ts l m count all (omega arith) refl ∙ ap (in_line_doc ts l 0) (want_is 0 one_line)) (λ e. cc)
shape_is ts l (shape.Body (suc k) one_line) charges height count size =
    let s : Shape = shape.Body (suc k) one_line in
    let m : Marks = marks_at s height (places_of ts l (more_headers s) height) in
    let all : (f : Fill) → count ≡ length (body_pieces ts l f) = λ f. size ∙ count_same ts l fill.Newline f in
    let less : suc k - 1 ≡ k = omega arith in
    body_is ts l m count (suc k) (leb 2 (suc k)) one_line charges (body_want one_line)
    (line_layout_is ts l m count k all (omega arith)
    (subst (λ (j : ℕ). m.bodies ≡ length (first_docs ts l.opener l.first) + length (second_gap ts l.first.last l.second.first fill.Newline) + 1
    + length (headers_docs ts l.second.last (take j l.others) (drop j l.others) l.closer fill.Newline)) less (omega arith))
    ∙ ap (in_line_doc ts l (suc k)) (want_is (suc k) one_line))
    (λ e. column_layout_is ts l m count (suc k - 1) all (omega arith) (omega arith) (omega arith) ∙ ap (in_column_doc ts l (suc k - 1)) (want_is (suc k) one_line))
