-- Documents of items, gaps, rows and slots keep the limits of documents, and their resolutions have few pieces.
use Rattle.std.proofs.Common.{◌≡◌, ◌≢◌, ℕ, zero, suc, ◌+◌, ◌*◌, ◌≤◌, ◌==◌, Bool, true, false, Option, Some, None, List, [], ◌∷◌, ◌++◌, length, map, replicate, take, drop, slice_get, refl, sym, ap, ◌∙◌, subst, arith}
use Rattle.std.specs.Prelude.{⊤, codes, if◌then◌else◌}
use Rattle.std.specs.List.{AllByRecursion, slice_split, onto_first}
use Rattle.std.proofs.lemmas.Bool.{eqb-false}
use Rattle.std.proofs.lemmas.List.{take-append-drop}
use Rattle.rf_base_document.specs.Document.{Doc, Newline, Hard, Concat, Nest, Align, Reset, Flatten, Choice, Only, IsOneLine, IsDocument, plain_text}
use Rattle.rf_base_document.specs.Sequence.{seq}
use Rattle.rf_base_document.proofs.Document.{IsOneLine-from_test}
use Rattle.rf_base_document.proofs.Sequence.{seq_of_none}
use Rattle.rf_base_optimum.specs.MostPieces.{most_pieces}
use Rattle.rf_base_optimum.proofs.Sequences.{row_by_halves}
use Rattle.rf_base_grammar.specs.Token.{Token}
use Rattle.rf_base_grammar.specs.Woven.{trails}
use Rattle.rf_base_style.specs.declared.columns.Columns.{Columns}
use Rattle.rf_base_style.proofs.Lengths.{lengths_keep_limits}
use Rattle.rf_base_tree.specs.declared.separators.Want.{Want}
use Rattle.rf_base_tree.specs.declared.separators.Want.TheVariants as want
use Rattle.rf_base_tree.specs.declared.separators.Separator.TheVariants as separator
use Rattle.rf_base_tree.specs.Trees.{spelling_at}
use Rattle.rf_base_tree.specs.Slots.{Entry, Slot, slot_entries, MayStandTogether, AreSlots}
use Rattle.rf_base_tree.specs.Cut.{needs_gap, needs_break, as_wanted, separator_between}
use Rattle.rf_base_file.specs.declared.shapes.Role.{Role}
use Rattle.rf_base_file.specs.declared.shapes.Roles.{Roles}
use Rattle.rf_base_file.specs.Rows.{Part, bare_break, line_doc, lines_behind, lines_docs, item_doc, separator_docs, docs_between, gap_docs, Step, steps_docs, row_docs, steps_wanting, whats, slot_steps, aligned_behind, part_of, slot_part, slot_parts}
use Rattle.rf_base_file.specs.Ways.{first_role, later_roles, Piece, part_in, slot_in, slots_in}
use Rattle.rf_base_file.specs.ByForms.{blanks_before}
use Rattle.rf_base_file.proofs.Parts.{step_parts, step_parts-wanting}
use Rattle.rf_base_file.proofs.SlotStrands.{whats-append, slot_steps-are, some_steps, PartsOf, map_of, slot_of}

-- a document of at most n pieces, and documents that have at most n together
abbrev pub DocSized : Doc → ℕ → Type 0
DocSized d n = IsDocument d × (most_pieces d ≤ n)

unfoldable pub DocsSized : List Doc → ℕ → Type 0
DocsSized [] n = ⊤
DocsSized (d ∷ ds) n = (k : ℕ) × (m : ℕ) × (k + m ≤ n) × DocSized d k × DocsSized ds m

pub more_docs : (ds : List Doc) (n m : ℕ) → n ≤ m → DocsSized ds n → DocsSized ds m
unfolding DocsSized
more_docs [] n m p h = tt
more_docs (d ∷ ds) n m p h = let sum : h.0 + h.1 ≤ n = h.2 in (h.0, h.1, omega arith, h.3, h.4)

pub docs-append : (ds es : List Doc) (n m : ℕ) → DocsSized ds n → DocsSized es m → DocsSized (ds ++ es) (n + m)
unfolding DocsSized
docs-append [] es n m h k = more_docs es m (n + m) (omega arith) k
docs-append (d ∷ ds) es n m h k = let sum : h.0 + h.1 ≤ n = h.2 in (
  h.0,
  h.1 + m,
  omega arith,
  h.3,
  docs-append ds es h.1 m h.4 k,
)

pub one_doc : (d : Doc) (n : ℕ) → DocSized d n → DocsSized (d ∷ []) n
unfolding DocsSized
one_doc d n h = (n, 0, omega arith, h, tt)

docs-apart : (ds es : List Doc) (n : ℕ) → DocsSized (ds ++ es) n →
    (k : ℕ) × (m : ℕ) × (k + m ≤ n) × DocsSized ds k × DocsSized es m
unfolding DocsSized
docs-apart [] es n h = (0, n, omega arith, tt, h)
docs-apart (d ∷ ds) es n h =
    let rest = docs-apart ds es h.1 h.4 in
    let sum : h.0 + h.1 ≤ n = h.2 in
    let others : rest.0 + rest.1 ≤ h.1 = rest.2 in
    (h.0 + rest.0, rest.1, omega arith, (h.0, rest.0, omega arith, h.3, rest.3), rest.4)

-- a sequence has the pieces of its parts
RowSized : List Doc → Doc → Type 0
RowSized ds a = (n : ℕ) → DocsSized ds n → DocSized a n

one_sized : (d : Doc) → RowSized (d ∷ []) d
unfolding RowSized DocsSized
one_sized d n h = let sum : h.0 + h.1 ≤ n = h.2 in let most = h.3.1 in (h.3.0, omega arith)

both_sized : (d e : Doc) (ds es : List Doc) (a b : Doc) → RowSized (d ∷ ds) a → RowSized (e ∷ es) b →
    RowSized (d ∷ (ds ++ (e ∷ es))) (Concat a b)
unfolding RowSized IsDocument most_pieces
both_sized d e ds es a b f g n h =
    let apart = docs-apart (d ∷ ds) (e ∷ es) n h in
    let first = f apart.0 apart.3 in
    let second = g apart.1 apart.4 in
    let sum : apart.0 + apart.1 ≤ n = apart.2 in
    let one = first.1 in
    let two = second.1 in
    ((first.0, second.0), omega arith)

pub nothing_sized : (n : ℕ) → 1 ≤ n → DocSized (plain_text []) n
unfolding IsDocument most_pieces
nothing_sized n p = ((IsOneLine-from_test [] refl, omega arith), p)

pub seq_sized : (ds : List Doc) (n : ℕ) → 1 ≤ n → DocsSized ds n → DocSized (seq ds) n
unfolding RowSized
seq_sized [] n p h = subst (λ (d : Doc). DocSized d n) (sym seq_of_none) (nothing_sized n p)
seq_sized (d ∷ ds) n p h = row_by_halves RowSized one_sized both_sized (suc (length ds)) d ds (omega arith) n h

-- the lines of an item
cons_one_line : (c : ℕ) (s : List ℕ) → (c == 10) ≡ false → IsOneLine s → IsOneLine (c ∷ s)
cons_one_line c s f h (zero, less, e) = eqb-false c 10 f e
cons_one_line c s f h (suc k, less, e) = h (k, omega arith, e)

no_one_line : IsOneLine []
no_one_line = IsOneLine-from_test [] refl

onto_one_line : (c : ℕ) (lines : List (List ℕ)) → (c == 10) ≡ false → AllByRecursion IsOneLine lines →
    AllByRecursion IsOneLine (onto_first c lines)
onto_one_line c [] f h = (cons_one_line c [] f no_one_line, tt)
onto_one_line c (s ∷ lines) f h = (cons_one_line c s f h.0, h.1)

lines_are : (s : List ℕ) → AllByRecursion IsOneLine (slice_split (λ c. c == 10) s)
lines_are [] = (no_one_line, tt)
lines_are (c ∷ s) = by_test (c == 10) refl (lines_are s)
  where
    parts : List (List ℕ)
    parts = slice_split (λ c. c == 10) s

    by_test : (b : Bool) → (c == 10) ≡ b → AllByRecursion IsOneLine parts →
        AllByRecursion IsOneLine (if b then [] ∷ parts else onto_first c parts)
    by_test true e h = (no_one_line, h)
    by_test false e h = onto_one_line c parts e h

onto_length : (c : ℕ) (lines : List (List ℕ)) → length (onto_first c lines) ≤ suc (length lines)
onto_length c [] = omega arith
onto_length c (s ∷ lines) = omega arith

few_lines : (s : List ℕ) → length (slice_split (λ c. c == 10) s) ≤ suc (length s)
few_lines [] = omega arith
few_lines (c ∷ s) = by_test (c == 10) (few_lines s)
  where
    parts : List (List ℕ)
    parts = slice_split (λ c. c == 10) s

    by_test : (b : Bool) → length parts ≤ suc (length s) →
        length (if b then [] ∷ parts else onto_first c parts) ≤ suc (suc (length s))
    by_test true rest = omega (arith, rest)
    by_test false rest = let onto = onto_length c parts in omega (arith, rest, onto)

line_sized : (columns : Columns) (s : List ℕ) → IsOneLine s → DocSized (line_doc columns s) 1
unfolding IsDocument most_pieces
line_sized columns s h = ((h, lengths_keep_limits columns s), omega arith)

break_sized : DocSized bare_break 1
unfolding IsDocument most_pieces
break_sized = (tt, omega arith)

hard_sized : DocSized Hard 1
unfolding IsDocument most_pieces
hard_sized = (tt, omega arith)

behind_sized : (columns : Columns) (lines : List (List ℕ)) → AllByRecursion IsOneLine lines →
    DocsSized (lines_behind columns lines) (2 * length lines)
unfolding DocsSized
behind_sized columns [] h = tt
behind_sized columns (s ∷ lines) h = (
  1,
  1 + 2 * length lines,
  omega arith,
  break_sized,
  (1, 2 * length lines, omega arith, line_sized columns s h.0, behind_sized columns lines h.1),
)

lines_sized : (columns : Columns) (lines : List (List ℕ)) → AllByRecursion IsOneLine lines →
    DocsSized (lines_docs columns lines) (2 * length lines)
unfolding DocsSized
lines_sized columns [] h = tt
lines_sized columns (s ∷ lines) h = (
  1,
  2 * length lines,
  omega arith,
  line_sized columns s h.0,
  behind_sized columns lines h.1,
)

-- how many pieces the gap before an item may have
unfoldable pub gap_pieces : List Token → ℕ → ℕ
gap_pieces ts item = blanks_before (slice_get ts item) + 1

pub item_sized : (columns : Columns) (ts : List Token) (item : ℕ) →
    DocSized (item_doc columns ts item) (2 * length (spelling_at ts item) + 2)
item_sized columns ts item =
    let s : List ℕ = spelling_at ts item in
    let lines : List (List ℕ) = slice_split (λ c. c == 10) s in
    let few = few_lines s in
    seq_sized (lines_docs columns lines) (2 * length s + 2) (omega arith)
    (more_docs (lines_docs columns lines) (2 * length lines) (2 * length s + 2) (omega (arith, few))
    (lines_sized columns lines (lines_are s)))

-- gaps
breaks_sized : (n : ℕ) → DocsSized (replicate n bare_break) n
unfolding DocsSized
breaks_sized zero = tt
breaks_sized (suc n) = (1, n, omega arith, break_sized, breaks_sized n)

hard_gap : (blanks : ℕ) → DocsSized (separator_docs (separator.Hard blanks)) (blanks + 1)
hard_gap blanks =
    docs-append (replicate blanks bare_break) (Hard ∷ []) blanks 1 (breaks_sized blanks) (one_doc Hard 1 hard_sized)

space_gap : (n : ℕ) → DocsSized (separator_docs separator.Space) (n + 1)
unfolding IsDocument most_pieces
space_gap n = one_doc (plain_text (codes " ")) (n + 1) (
  (IsOneLine-from_test (codes " ") refl, omega arith),
  omega arith,
)

line_gap : (n : ℕ) → DocsSized (separator_docs separator.Line) (n + 1)
unfolding IsDocument most_pieces
line_gap n = one_doc Newline (n + 1) (tt, omega arith)

wanted_gap : (needs : Bool) (w : Want) (n : ℕ) → DocsSized (separator_docs (as_wanted needs w)) (n + 1)
unfolding DocsSized
wanted_gap true want.Nothing n = space_gap n
wanted_gap false want.Nothing n = tt
wanted_gap true want.Space n = space_gap n
wanted_gap false want.Space n = space_gap n
wanted_gap true want.Line n = line_gap n
wanted_gap false want.Line n = line_gap n
wanted_gap true want.Must n = more_docs (separator_docs (separator.Hard 0)) 1 (n + 1) (omega arith) (hard_gap 0)
wanted_gap false want.Must n = more_docs (separator_docs (separator.Hard 0)) 1 (n + 1) (omega arith) (hard_gap 0)

separator_sized : (a b : Token) (w : Want) → DocsSized (separator_docs (separator_between a b w)) (b.blanks + 1)
separator_sized a b w = by_test (trails b) (needs_break a b)
  where
    by_test : (t n : Bool) →
        DocsSized (separator_docs
        (if t then separator.Space else if n then separator.Hard b.blanks else as_wanted
        (needs_gap a.kind a.spelling b.spelling) w)) (b.blanks + 1)
    by_test true n = space_gap b.blanks
    by_test false true = hard_gap b.blanks
    by_test false false = wanted_gap (needs_gap a.kind a.spelling b.spelling) w b.blanks

between_sized : (o p : Option Token) (w : Want) → DocsSized (docs_between o p w) (blanks_before p + 1)
unfolding DocsSized
between_sized (Some a) (Some b) w = separator_sized a b w
between_sized _ _ w = tt

pub gap_sized : (ts : List Token) (before next : ℕ) (w : Want) →
    DocsSized (gap_docs ts before next w) (gap_pieces ts next)
unfolding gap_pieces
gap_sized ts before next w = between_sized (slice_get ts before) (slice_get ts next) w

pub some_gap : (ts : List Token) (item : ℕ) → 1 ≤ gap_pieces ts item
unfolding gap_pieces
some_gap ts item = omega arith

-- a part that has at most n pieces with the gap before it, and parts that have them together
abbrev pub PartSized : List Token → Part → ℕ → Type 0
PartSized ts p n = IsDocument p.doc × (most_pieces p.doc + gap_pieces ts p.first ≤ n)

unfoldable pub PartsSized : List Token → List Part → ℕ → Type 0
PartsSized ts [] n = ⊤
PartsSized ts (p ∷ parts) n = (k : ℕ) × (m : ℕ) × (k + m ≤ n) × PartSized ts p k × PartsSized ts parts m

pub more_parts : (ts : List Token) (parts : List Part) (n m : ℕ) → n ≤ m → PartsSized ts parts n → PartsSized ts parts m
unfolding PartsSized
more_parts ts [] n m p h = tt
more_parts ts (q ∷ parts) n m p h = let sum : h.0 + h.1 ≤ n = h.2 in (h.0, h.1, omega arith, h.3, h.4)

pub parts-append : (ts : List Token) (parts others : List Part) (n m : ℕ) → PartsSized ts parts n →
    PartsSized ts others m → PartsSized ts (parts ++ others) (n + m)
unfolding PartsSized
parts-append ts [] others n m h k = more_parts ts others m (n + m) (omega arith) k
parts-append ts (p ∷ parts) others n m h k =
    let sum : h.0 + h.1 ≤ n = h.2 in (h.0, h.1 + m, omega arith, h.3, parts-append ts parts others h.1 m h.4 k)

pub parts-apart : (ts : List Token) (parts others : List Part) (n : ℕ) → PartsSized ts (parts ++ others) n →
    (k : ℕ) × (m : ℕ) × (k + m ≤ n) × PartsSized ts parts k × PartsSized ts others m
unfolding PartsSized
parts-apart ts [] others n h = (0, n, omega arith, tt, h)
parts-apart ts (p ∷ parts) others n h =
    let rest = parts-apart ts parts others h.1 h.4 in
    let sum : h.0 + h.1 ≤ n = h.2 in
    let more : rest.0 + rest.1 ≤ h.1 = rest.2 in
    (h.0 + rest.0, rest.1, omega arith, (h.0, rest.0, omega arith, h.3, rest.3), rest.4)

pub parts_cut : (ts : List Token) (c : ℕ) (parts : List Part) (n : ℕ) → PartsSized ts parts n →
    (k : ℕ) × (m : ℕ) × (k + m ≤ n) × PartsSized ts (take c parts) k × PartsSized ts (drop c parts) m
parts_cut ts c parts n h =
    parts-apart ts (take c parts) (drop c parts) n
    (subst (λ (ps : List Part). PartsSized ts ps n) (sym (take-append-drop c parts)) h)

pub one_part : (ts : List Token) (p : Part) (n : ℕ) → PartSized ts p n → PartsSized ts (p ∷ []) n
unfolding PartsSized
one_part ts p n h = (n, 0, omega arith, h, tt)

-- steps in a row
pub steps_sized : (ts : List Token) (before : ℕ) (steps : List Step) (n : ℕ) → PartsSized ts (step_parts steps) n →
    DocsSized (steps_docs ts before steps) n
unfolding steps_docs step_parts PartsSized DocsSized
steps_sized ts before [] n h = tt
steps_sized ts before (s ∷ steps) n h =
    let part = h.3 in
    let all = part.1 in
    let sum : h.0 + h.1 ≤ n = h.2 in
    let rest : DocsSized (s.part.doc ∷ steps_docs ts s.part.last steps) (most_pieces s.part.doc + h.1) =
    (most_pieces s.part.doc, h.1, omega arith, (part.0, omega arith), steps_sized ts s.part.last steps h.1 h.4) in
    more_docs (gap_docs ts before s.part.first s.want ++ (s.part.doc ∷ steps_docs ts s.part.last steps))
    (gap_pieces ts s.part.first + (most_pieces s.part.doc + h.1)) n (omega arith)
    (docs-append (gap_docs ts before s.part.first s.want) (s.part.doc ∷ steps_docs ts s.part.last steps)
    (gap_pieces ts s.part.first) (most_pieces s.part.doc + h.1)
    (gap_sized ts before s.part.first s.want) rest)

pub wanting_sized : (ts : List Token) (w : Want) (parts : List Part) (n : ℕ) → PartsSized ts parts n →
    PartsSized ts (step_parts (steps_wanting w parts)) n
wanting_sized ts w parts n h = subst (λ (ps : List Part). PartsSized ts ps n) (sym (step_parts-wanting w parts)) h

-- each resolution has a piece
some_piece : (d : Doc) → 1 ≤ most_pieces d
unfolding most_pieces
some_piece (Concat a b) = let first = some_piece a in omega (arith, first)
some_piece (Nest n a) = some_piece a
some_piece (Align a) = some_piece a
some_piece (Reset a) = some_piece a
some_piece (Flatten a) = some_piece a
some_piece (Choice a b) = let first = some_piece a in omega (arith, first)
some_piece (Only dir a) = some_piece a
some_piece _ = omega arith

-- a row without the gap before its first part
pub row_sized : (ts : List Token) (p : Part) (steps : List Step) (k m n : ℕ) → k + m ≤ n → PartSized ts p k →
    PartsSized ts (step_parts steps) m →
    (r : ℕ) × DocsSized (p.doc ∷ steps_docs ts p.last steps) r × (1 ≤ r) × (r + gap_pieces ts p.first ≤ n)
unfolding DocsSized
row_sized ts p steps k m n sum part parts =
    let all = part.1 in
    let some = some_piece p.doc in (
      most_pieces p.doc + m,
      (most_pieces p.doc, m, omega arith, (part.0, omega arith), steps_sized ts p.last steps m parts),
      omega (arith, some),
      omega (arith, all),
    )

-- the part of steps
aligned_sized : (leads : List (Entry Part)) (d : Doc) (n : ℕ) → DocSized d n → DocSized (aligned_behind leads d) n
unfolding IsDocument most_pieces
aligned_sized [] d n h = h
aligned_sized (c ∷ leads) d n h = h

part_of_sized : (ts : List Token) (leads : List (Entry Part)) (steps : List Step) (n : ℕ) → steps ≢ [] →
    PartsSized ts (step_parts steps) n →
    PartSized ts (part_of steps (aligned_behind leads (seq (row_docs ts steps)))) n
unfolding step_parts PartsSized
part_of_sized ts leads [] n some h = absurd (some refl)
part_of_sized ts leads (s ∷ steps) n some h =
    let row = row_sized ts s.part steps h.0 h.1 n h.2 h.3 h.4 in
    let whole =
    aligned_sized leads (seq (row_docs ts (s ∷ steps))) row.0 (seq_sized (row_docs ts (s ∷ steps)) row.0 row.2 row.1) in
    let most = whole.1 in
    let sum = row.3 in
    (whole.0, omega (arith, most, sum))

-- a piece that has at most n pieces of a layout with the gap before it, whatever it stands in
abbrev pub PieceSized : List Token → Piece → ℕ → Type 0
PieceSized ts p n = (quoted : Bool) (role : Role) → PartSized ts (part_in quoted role p) n

unfoldable pub PiecesSized : List Token → List Piece → ℕ → Type 0
PiecesSized ts [] n = ⊤
PiecesSized ts (p ∷ pieces) n = (k : ℕ) × (m : ℕ) × (k + m ≤ n) × PieceSized ts p k × PiecesSized ts pieces m

pub PiecesSized-cons : (ts : List Token) (p : Piece) (pieces : List Piece) (n m : ℕ) → PieceSized ts p n →
    PiecesSized ts pieces m → PiecesSized ts (p ∷ pieces) (n + m)
unfolding PiecesSized
PiecesSized-cons ts p pieces n m h k = (n, m, omega arith, h, k)

pieces-apart : (ts : List Token) (pieces others : List Piece) (n : ℕ) → PiecesSized ts (pieces ++ others) n →
    (k : ℕ) × (m : ℕ) × (k + m ≤ n) × PiecesSized ts pieces k × PiecesSized ts others m
unfolding PiecesSized
pieces-apart ts [] others n h = (0, n, omega arith, tt, h)
pieces-apart ts (p ∷ pieces) others n h =
    let rest = pieces-apart ts pieces others h.1 h.4 in
    let sum : h.0 + h.1 ≤ n = h.2 in
    let more : rest.0 + rest.1 ≤ h.1 = rest.2 in
    (h.0 + rest.0, rest.1, omega arith, (h.0, rest.0, omega arith, h.3, rest.3), rest.4)

parts_of_sized : (ts : List Token) (parts : List Part) (pieces : List Piece) (n : ℕ) → PartsOf parts pieces →
    PiecesSized ts pieces n → PartsSized ts parts n
unfolding PartsOf PiecesSized PartsSized
parts_of_sized ts [] [] n o h = tt
parts_of_sized ts [] (c ∷ pieces) n o h = absurd o
parts_of_sized ts (p ∷ parts) [] n o h = absurd o
parts_of_sized ts (p ∷ parts) (c ∷ pieces) n o h = (
  h.0,
  h.1,
  h.2,
  subst (λ (q : Part). PartSized ts q h.0) (sym o.0.2)
      (h.3 o.0.0 o.0.1),
  parts_of_sized ts parts pieces h.1 o.1 h.4,
)

pub pieces_sized : (ts : List Token) (quoted : Bool) (role : Role) (pieces : List Piece) (n : ℕ) →
    PiecesSized ts pieces n → PartsSized ts (map (part_in quoted role) pieces) n
pieces_sized ts quoted role pieces n h =
    parts_of_sized ts (map (part_in quoted role) pieces) pieces n (map_of quoted role pieces) h

slot_sized : (ts : List Token) (in_list quoted : Bool) (role : Role) (s : Slot Piece) (n : ℕ) →
    MayStandTogether in_list s.leads s.key s.datum →
    PiecesSized ts (whats (slot_entries s)) n → PartSized ts (slot_part ts (slot_in quoted role s)) n
slot_sized ts in_list quoted role s n m h =
    let inner : Slot Part = slot_in quoted role s in
    part_of_sized ts inner.leads (slot_steps inner) n
    (some_steps in_list quoted role s.leads s.key s.datum s.trailing m)
    (subst (λ (ps : List Part). PartsSized ts ps n) (sym (slot_steps-are inner))
    (parts_of_sized ts (whats (slot_entries inner)) (whats (slot_entries s)) n (slot_of quoted role s) h))

pub slots_sized : (ts : List Token) (in_list quoted : Bool) (roles : Roles) (entries : List (Entry Piece))
    (slots : List (Slot Piece)) (n : ℕ) →
    AreSlots in_list entries slots → PiecesSized ts (whats entries) n →
    PartsSized ts (slot_parts ts (slots_in quoted roles slots)) n
unfolding PartsSized slots_in
slots_sized ts in_list quoted roles entries [] n c h = tt
slots_sized ts in_list quoted roles entries (s ∷ slots) n c h =
    let apart =
    pieces-apart ts (whats (slot_entries s)) (whats c.0) n
    (subst (λ (ps : List Piece). PiecesSized ts ps n)
    (ap (λ (es : List (Entry Piece)). whats es) c.1 ∙ whats-append (slot_entries s) c.0) h) in (
      apart.0,
      apart.1,
      apart.2,
      slot_sized ts in_list quoted (first_role roles) s apart.0 c.3 apart.3,
      slots_sized ts in_list quoted (later_roles roles) c.0 slots apart.1 c.6 apart.4,
    )
