-- Items, gaps and parts in a row on one line.
use Rattle.std.proofs.Common.{◌≡◌, ℕ, zero, suc, ◌+◌, Bool, true, false, List, [], ◌∷◌, ◌++◌, replicate, refl, sym, subst, Option, Some, None, arith}
use Rattle.std.specs.List.{AllByRecursion, slice_split}
use Rattle.std.specs.Prelude.{⊤, slice_get, ◌==◌, if◌then◌else◌}
use Rattle.rf_base_document.specs.Document.{Doc, Text, Hard, Concat, Align}
use Rattle.rf_base_document.specs.Sequence.{seq}
use Rattle.rf_base_grammar.specs.Token.{Token}
use Rattle.rf_base_grammar.specs.Woven.{trails}
use Rattle.rf_base_style.specs.declared.columns.Columns.{Columns}
use Rattle.rf_base_style.specs.Columns.{length_in}
use Rattle.rf_base_tree.specs.declared.separators.Want.{Want}
use Rattle.rf_base_tree.specs.declared.separators.Want.TheVariants as want
use Rattle.rf_base_tree.specs.declared.separators.Separator.TheVariants as separator
use Rattle.rf_base_tree.specs.Trees.{spelling_at}
use Rattle.rf_base_tree.specs.Cut.{needs_gap, needs_break, as_wanted}
use Rattle.rf_base_cut.specs.DocumentLines.{IsLong, AreLong}
use Rattle.rf_base_cut.proofs.DocumentLines.{long_sequence}
use Rattle.rf_base_file.specs.Rows.{Part, bare_break, line_doc, lines_behind, lines_docs, item_doc, separator_docs, docs_between, gap_docs, Step, steps_docs, steps_last, row_docs, steps_wanting}
use Rattle.rf_base_file.proofs.Parts.{step_parts}
use Rattle.rf_base_lines.specs.Lengths.{Long, HasLength}

-- rows of documents
pub row_same : (ds : List Doc) (flat : Bool) (n m : ℕ) → n ≡ m → AreLong ds flat n → AreLong ds flat m
row_same ds flat n m e h = subst (λ (k : ℕ). AreLong ds flat k) e h

pub row_append : (ds es : List Doc) (flat : Bool) (i j : ℕ) → AreLong ds flat i → AreLong es flat j → AreLong (ds ++ es) flat (i + j)
unfolding AreLong
row_append [] es flat i j h k = let none : i ≡ 0 = h in row_same es flat j (i + j) (omega arith) k
row_append (d ∷ ds) es flat i j h k =
    let sum : i ≡ h.0 + h.1 = h.2 in (h.0, h.1 + j, omega arith, h.3, row_append ds es flat h.1 j h.4 k)

pub row_cons : (d : Doc) (ds : List Doc) (flat : Bool) (i j : ℕ) → IsLong d flat i → AreLong ds flat j → AreLong (d ∷ ds) flat (i + j)
unfolding AreLong
row_cons d ds flat i j h k = (i, j, refl, h, k)

pub row_none : (flat : Bool) → AreLong [] flat 0
unfolding AreLong
row_none flat = refl

pub row_one : (d : Doc) (flat : Bool) (n : ℕ) → IsLong d flat n → AreLong (d ∷ []) flat n
unfolding AreLong
row_one d flat n h = (n, 0, omega arith, h, refl)

-- documents made of others
pub align_long : (d : Doc) (flat : Bool) (n : ℕ) → IsLong d flat n → IsLong (Align d) flat n
unfolding IsLong
align_long d flat n h = h

pub concat_long : (a b : Doc) (flat : Bool) (i j : ℕ) → IsLong a flat i → IsLong b flat j → IsLong (Concat a b) flat (i + j)
unfolding IsLong
concat_long a b flat i j h k = (i, j, refl, h, k)

-- each layout of the documents in a row on one line is n columns long, flat or not
abbrev pub LongRow : List Doc → ℕ → Type 0
LongRow docs n = (flat : Bool) → AreLong docs flat n

-- a row of documents has one length
abbrev pub RowHasLength : List Doc → Type 0
RowHasLength docs = (n : ℕ) × LongRow docs n

pub any_append : (ds es : List Doc) → RowHasLength ds → RowHasLength es → RowHasLength (ds ++ es)
any_append ds es h k = (h.0 + k.0, λ flat. row_append ds es flat h.0 k.0 (h.1 flat) (k.1 flat))

pub any_cons : (d : Doc) (ds : List Doc) → HasLength d → RowHasLength ds → RowHasLength (d ∷ ds)
any_cons d ds h k = (h.0 + k.0, λ flat. row_cons d ds flat h.0 k.0 (h.1 flat) (k.1 flat))

pub any_none : RowHasLength []
any_none = (0, λ flat. row_none flat)

pub any_seq : (ds : List Doc) → RowHasLength ds → HasLength (seq ds)
any_seq ds h = (h.0, λ flat. long_sequence ds flat h.0 (h.1 flat))

pub any_align : (d : Doc) → HasLength d → HasLength (Align d)
any_align d h = (h.0, λ flat. align_long d flat h.0 (h.1 flat))

pub any_concat : (a b : Doc) → HasLength a → HasLength b → HasLength (Concat a b)
any_concat a b h k = (h.0 + k.0, λ flat. concat_long a b flat h.0 k.0 (h.1 flat) (k.1 flat))

-- items
text_long : (s : List ℕ) (len : ℕ) → HasLength (Text s len)
unfolding IsLong
text_long s len = (len, λ flat. refl)

break_long : HasLength bare_break
unfolding IsLong
break_long = (0, λ flat. tt)

behind_long : (columns : Columns) (lines : List (List ℕ)) → RowHasLength (lines_behind columns lines)
behind_long columns [] = any_none
behind_long columns (s ∷ lines) =
    any_cons bare_break (line_doc columns s ∷ lines_behind columns lines) break_long
    (any_cons (line_doc columns s) (lines_behind columns lines) (text_long s (length_in columns s)) (behind_long columns lines))

lines_long : (columns : Columns) (lines : List (List ℕ)) → RowHasLength (lines_docs columns lines)
lines_long columns [] = any_none
lines_long columns (s ∷ lines) = any_cons (line_doc columns s) (lines_behind columns lines) (text_long s (length_in columns s)) (behind_long columns lines)

pub item_long : (columns : Columns) (ts : List Token) (item : ℕ) → HasLength (item_doc columns ts item)
item_long columns ts item =
    let lines : List (List ℕ) = slice_split (λ c. c == 10) (spelling_at ts item) in
    any_seq (lines_docs columns lines) (lines_long columns lines)

-- gaps: what is wanted but nothing is one column wide on one line
abbrev pub IsWide : Want → Type 0
IsWide want.Nothing = ⊥
IsWide want.Space = ⊤
IsWide want.Line = ⊤
IsWide want.Must = ⊤

space_long : (flat : Bool) → AreLong (separator_docs separator.Space) flat 1
unfolding IsLong AreLong
space_long flat = (1, 0, refl, refl, refl)

line_long : (flat : Bool) → AreLong (separator_docs separator.Line) flat 1
unfolding IsLong AreLong
line_long true = (1, 0, refl, refl, refl)
line_long false = (1, 0, refl, tt, refl)

hard_long : (blanks : ℕ) (flat : Bool) → AreLong (replicate blanks bare_break ++ Hard ∷ []) flat 1
unfolding IsLong AreLong
hard_long zero flat = (1, 0, refl, tt, refl)
hard_long (suc blanks) flat = (0, 1, refl, tt, hard_long blanks flat)

wanted_long : (needs : Bool) (w : Want) (flat : Bool) → IsWide w → AreLong (separator_docs (as_wanted needs w)) flat 1
wanted_long needs want.Nothing flat h = absurd h
wanted_long true want.Space flat h = space_long flat
wanted_long false want.Space flat h = space_long flat
wanted_long true want.Line flat h = line_long flat
wanted_long false want.Line flat h = line_long flat
wanted_long true want.Must flat h = hard_long 0 flat
wanted_long false want.Must flat h = hard_long 0 flat

between_long : (trailing broken needs : Bool) (blanks : ℕ) (w : Want) (flat : Bool) → IsWide w →
    AreLong (separator_docs (if trailing then separator.Space else if broken then separator.Hard blanks else as_wanted needs w)) flat 1
between_long true broken needs blanks w flat h = space_long flat
between_long false true needs blanks w flat h = hard_long blanks flat
between_long false false needs blanks w flat h = wanted_long needs w flat h

-- how wide the gap between two tokens is, if they are there
pub wide_between : Option Token → Option Token → ℕ
wide_between (Some a) (Some b) = 1
wide_between _ _ = 0

docs_wide : (o p : Option Token) (w : Want) (flat : Bool) → IsWide w → AreLong (docs_between o p w) flat (wide_between o p)
unfolding wide_between
docs_wide (Some a) (Some b) w flat h = between_long (trails b) (needs_break a b) (needs_gap a.kind a.spelling b.spelling) b.blanks w flat h
docs_wide _ _ w flat h = row_none flat

unfoldable pub wide : List Token → ℕ → ℕ → ℕ
wide ts before next = wide_between (slice_get ts before) (slice_get ts next)

pub gap_wide : (ts : List Token) (before next : ℕ) (w : Want) (flat : Bool) → IsWide w → AreLong (gap_docs ts before next w) flat (wide ts before next)
unfolding wide
gap_wide ts before next w flat h = docs_wide (slice_get ts before) (slice_get ts next) w flat h

-- and where nothing is wanted it has one length too
tight_long : (trailing broken needs : Bool) (blanks : ℕ) →
    RowHasLength (separator_docs (if trailing then separator.Space else if broken then separator.Hard blanks else as_wanted needs want.Nothing))
tight_long false true needs blanks = (1, λ flat. hard_long blanks flat)
tight_long false false false blanks = any_none
tight_long _ _ _ blanks = (1, λ flat. space_long flat)

docs_tight : (o p : Option Token) → RowHasLength (docs_between o p want.Nothing)
docs_tight (Some a) (Some b) = tight_long (trails b) (needs_break a b) (needs_gap a.kind a.spelling b.spelling) b.blanks
docs_tight _ _ = any_none

pub gap_tight : (ts : List Token) (before next : ℕ) → RowHasLength (gap_docs ts before next want.Nothing)
gap_tight ts before next = docs_tight (slice_get ts before) (slice_get ts next)

pub gap_any : (ts : List Token) (before next : ℕ) (w : Want) → RowHasLength (gap_docs ts before next w)
gap_any ts before next want.Nothing = gap_tight ts before next
gap_any ts before next want.Space = (wide ts before next, λ flat. gap_wide ts before next want.Space flat tt)
gap_any ts before next want.Line = (wide ts before next, λ flat. gap_wide ts before next want.Line flat tt)
gap_any ts before next want.Must = (wide ts before next, λ flat. gap_wide ts before next want.Must flat tt)

-- steps of parts that have one length have one
abbrev pub StepsHaveLengths : List Step → Type 0
StepsHaveLengths steps = AllByRecursion (λ s. HasLength s.part.doc) steps

pub steps_any : (ts : List Token) (before : ℕ) (steps : List Step) → StepsHaveLengths steps → RowHasLength (steps_docs ts before steps)
unfolding steps_docs
steps_any ts before [] h = any_none
steps_any ts before (s ∷ steps) h =
    any_append (gap_docs ts before s.part.first s.want) (s.part.doc ∷ steps_docs ts s.part.last steps) (gap_any ts before s.part.first s.want)
    (any_cons s.part.doc (steps_docs ts s.part.last steps) h.0 (steps_any ts s.part.last steps h.1))

pub row_any : (ts : List Token) (steps : List Step) → StepsHaveLengths steps → RowHasLength (row_docs ts steps)
row_any ts [] h = any_none
row_any ts (s ∷ steps) h = any_cons s.part.doc (steps_docs ts s.part.last steps) h.0 (steps_any ts s.part.last steps h.1)

-- parts behind an item, with a gap before each, take up so many columns together
unfoldable pub PartsLong : List Token → ℕ → List Part → ℕ → Type 0
PartsLong ts before [] n = n ≡ 0
PartsLong ts before (p ∷ parts) n =
    (i : ℕ) × (j : ℕ) × (n ≡ wide ts before p.first + (i + j)) × Long p.doc i × PartsLong ts p.last parts j

-- the number of the last item of the parts, or this one where there are none
unfoldable pub parts_last : ℕ → List Part → ℕ
parts_last last [] = last
parts_last last (p ∷ parts) = parts_last p.last parts

pub parts_last-append : (n : ℕ) (ps qs : List Part) → parts_last n (ps ++ qs) ≡ parts_last (parts_last n ps) qs
unfolding parts_last
parts_last-append n [] qs = refl
parts_last-append n (p ∷ ps) qs = parts_last-append p.last ps qs

pub steps_last-is : (n : ℕ) (steps : List Step) → steps_last n steps ≡ parts_last n (step_parts steps)
unfolding steps_last parts_last step_parts
steps_last-is n [] = refl
steps_last-is n (s ∷ steps) = steps_last-is s.part.last steps

pub parts_total : (ts : List Token) (before : ℕ) (parts : List Part) → AllByRecursion (λ p. HasLength p.doc) parts → (n : ℕ) × PartsLong ts before parts n
unfolding PartsLong
parts_total ts before [] h = (0, refl)
parts_total ts before (p ∷ parts) h =
    let rest = parts_total ts p.last parts h.1 in
    (wide ts before p.first + (h.0.0 + rest.0), (h.0.0, rest.0, refl, h.0.1, rest.1))

pub parts_apart : (ts : List Token) (before : ℕ) (ps qs : List Part) (n : ℕ) → PartsLong ts before (ps ++ qs) n →
    (i : ℕ) × (j : ℕ) × (n ≡ i + j) × PartsLong ts before ps i × PartsLong ts (parts_last before ps) qs j
unfolding PartsLong parts_last
parts_apart ts before [] qs n h = (0, n, omega arith, refl, h)
parts_apart ts before (p ∷ ps) qs n h =
    let rest = parts_apart ts p.last ps qs h.1 h.4 in
    let sum : n ≡ wide ts before p.first + (h.0 + h.1) = h.2 in
    let more : h.1 ≡ rest.0 + rest.1 = rest.2 in
    (wide ts before p.first + (h.0 + rest.0), rest.1, omega arith, (h.0, rest.0, refl, h.3, rest.3), rest.4)

-- steps before each of which something is wanted take up what their parts do
abbrev pub AllWide : List Step → Type 0
AllWide steps = AllByRecursion (λ s. IsWide s.want) steps

pub steps_wide : (ts : List Token) (before : ℕ) (steps : List Step) (n : ℕ) (flat : Bool) → AllWide steps → PartsLong ts before (step_parts steps) n →
    AreLong (steps_docs ts before steps) flat n
unfolding steps_docs step_parts PartsLong
steps_wide ts before [] n flat w h = row_same [] flat 0 n (sym h) (row_none flat)
steps_wide ts before (s ∷ steps) n flat w h =
    row_same (gap_docs ts before s.part.first s.want ++ s.part.doc ∷ steps_docs ts s.part.last steps) flat (wide ts before s.part.first + (h.0 + h.1)) n (sym h.2)
    (row_append (gap_docs ts before s.part.first s.want) (s.part.doc ∷ steps_docs ts s.part.last steps) flat (wide ts before s.part.first) (h.0 + h.1)
    (gap_wide ts before s.part.first s.want flat w.0)
    (row_cons s.part.doc (steps_docs ts s.part.last steps) flat h.0 h.1 (h.3 flat) (steps_wide ts s.part.last steps h.1 flat w.1 h.4)))

pub wanting_wide : (w : Want) (parts : List Part) → IsWide w → AllWide (steps_wanting w parts)
wanting_wide w [] h = tt
wanting_wide w (p ∷ parts) h = (h, wanting_wide w parts h)

pub wide_append : (steps more : List Step) → AllWide steps → AllWide more → AllWide (steps ++ more)
wide_append [] more h k = k
wide_append (s ∷ steps) more h k = (h.0, wide_append steps more h.1 k)
