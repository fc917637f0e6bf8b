-- Sequences, items, gaps and steps on one line.
use Rattle.std.proofs.Common.{◌≡◌, ◌≢◌, ◌==◌, ℕ, zero, suc, ◌+◌, ◌≤◌, Bool, true, false, List, [], ◌∷◌, ◌++◌, append_assoc, append-nil, length, replicate, get_or, refl, sym, ◌∙◌, ap, ap₂, Option, Some, None, arith}
use Rattle.std.specs.List.{slice_split, onto_first, All, Contains}
use Rattle.std.specs.Prelude.{⊤, slice_get, if◌then◌else◌}
use Rattle.std.proofs.lemmas.List.{get_or_default}
use Rattle.std.proofs.lemmas.List.Splits.{slice_split_none, length-slice_split}
use Rattle.std.proofs.lemmas.Bool.{eqb-false, ne_eqb}
use Rattle.rf_base_document.specs.declared.directions.Dir.{Dir}
use Rattle.rf_base_document.specs.Document.{Doc, Hard, IsOneLine}
use Rattle.rf_base_document.specs.Sequence.{seq}
use Rattle.rf_base_cut.proofs.Halves.{seq_by_parts}
use Rattle.rf_base_grammar.specs.Token.{Token}
use Rattle.rf_base_grammar.specs.Woven.{trails}
use Rattle.rf_base_style.specs.declared.columns.Columns.{Columns}
use Rattle.rf_base_style.specs.Columns.{length_in}
use Rattle.rf_base_tree.specs.declared.separators.Want.{Want}
use Rattle.rf_base_tree.specs.declared.separators.Want.TheVariants as want
use Rattle.rf_base_tree.specs.declared.separators.Separator.{Separator}
use Rattle.rf_base_tree.specs.declared.separators.Separator.TheVariants as separator
use Rattle.rf_base_tree.specs.Trees.{spelling_at}
use Rattle.rf_base_tree.specs.Slots.{Entry, Slot}
use Rattle.rf_base_tree.specs.Cut.{needs_gap, needs_break, as_wanted, separator_between}
use Rattle.rf_base_file.specs.Rows.{Part, bare_break, line_doc, lines_docs, item_doc, mark_doc, separator_docs, docs_between, gap_docs, Step, steps_docs, steps_last, row_docs, prefixed_doc, slot_steps, aligned_behind, slot_doc}
use Rattle.rf_base_lines.specs.Spelled.{Spelled, spelled, spelled_text, spelled_nothing, spelled_both, spelled_line, spelled_all}
use Rattle.rf_base_lines.specs.Lists.{spelled_separator}

-- what stands in a row
pub same_spelled : (n m : ℕ) (h k : List Dir) (s t : List ℕ) (i j : ℕ) → n ≡ m → h ≡ k → s ≡ t → i ≡ j → Some (spelled n h s i) ≡ Some (spelled m k t j)
same_spelled n m h k s t i j e f g o =
    ap₂ (λ (a : ℕ) (b : List Dir). Some (spelled a b s i)) e f ∙ ap₂ (λ (a : List ℕ) (b : ℕ). Some (spelled m k a b)) g o

pub both_nothing : (o : Option Spelled) → o ≡ spelled_both o (Some spelled_nothing)
both_nothing None = refl
both_nothing (Some a) =
    same_spelled a.len (a.len + 0) a.how (a.how ++ []) a.text (a.text ++ []) a.words (a.words + 0)
    (omega arith) (sym (append-nil a.how)) (sym (append-nil a.text)) (omega arith)

pub nothing_both : (o : Option Spelled) → o ≡ spelled_both (Some spelled_nothing) o
nothing_both None = refl
nothing_both (Some a) =
    same_spelled a.len (0 + a.len) a.how a.how a.text a.text a.words (0 + a.words) (omega arith) refl refl (omega arith)

pub both_none : (o : Option Spelled) → spelled_both o None ≡ None
both_none None = refl
both_none (Some a) = refl

pub both_assoc : (o p q : Option Spelled) → spelled_both o (spelled_both p q) ≡ spelled_both (spelled_both o p) q
both_assoc (Some a) (Some b) (Some c) =
    same_spelled (a.len + (b.len + c.len)) ((a.len + b.len) + c.len) (a.how ++ (b.how ++ c.how)) ((a.how ++ b.how) ++ c.how)
    (a.text ++ (b.text ++ c.text)) ((a.text ++ b.text) ++ c.text) (a.words + (b.words + c.words)) ((a.words + b.words) + c.words)
    (omega arith) (sym (append_assoc a.how b.how c.how)) (sym (append_assoc a.text b.text c.text)) (omega arith)
both_assoc _ _ _ = refl

pub all_append : (ds es : List Doc) (flat : Bool) → spelled_all (ds ++ es) flat ≡ spelled_both (spelled_all ds flat) (spelled_all es flat)
unfolding spelled_all
all_append [] es flat = nothing_both (spelled_all es flat)
all_append (d ∷ ds) es flat =
    ap (spelled_both (spelled_line d flat)) (all_append ds es flat) ∙ both_assoc (spelled_line d flat) (spelled_all ds flat) (spelled_all es flat)

pub all_one : (d : Doc) (flat : Bool) → spelled_all (d ∷ []) flat ≡ spelled_line d flat
unfolding spelled_all
all_one d flat = sym (both_nothing (spelled_line d flat))

-- sequences of some part
abbrev pub HasPart : List Doc → Type 0
HasPart [] = ⊥
HasPart (d ∷ ds) = ⊤

pub has_part : (ds : List Doc) (e : Doc) (es : List Doc) → HasPart (ds ++ e ∷ es)
has_part [] e es = tt
has_part (d ∷ ds) e es = tt

pub seq_spelled : (ds : List Doc) (flat : Bool) → HasPart ds → spelled_line (seq ds) flat ≡ spelled_all ds flat
unfolding spelled_line spelled_all
seq_spelled ds flat =
    seq_by_parts (λ es e. HasPart es → spelled_line e flat ≡ spelled_all es flat) (λ h. absurd h) (λ d h. both_nothing (spelled_line d flat))
    (λ d e ds es a b p q h. ap₂ spelled_both (p tt) (q tt) ∙ sym (all_append (d ∷ ds) (e ∷ es) flat)) ds

pub sequences_spelled : (parts more : List Doc) (flat : Bool) →
    (parts ≢ [] → spelled_line (seq parts) flat ≡ spelled_all parts flat)
    × (spelled_all (parts ++ more) flat ≡ spelled_both (spelled_all parts flat) (spelled_all more flat))
sequences_spelled parts more flat = (λ h. seq_spelled parts flat (some_part parts h), all_append parts more flat)
  where
    some_part : (ds : List Doc) → ds ≢ [] → HasPart ds
    some_part [] h = absurd (h refl)
    some_part (d ∷ ds) h = tt

-- items
abbrev is_feed : ℕ → Bool
is_feed c = c == 10

pub no_feed_at : (s : List ℕ) → IsOneLine s → All (λ c. is_feed c ≡ false) s
no_feed_at s one k d less = ne_eqb (get_or s k d) 10 (λ e. one (k, less, sym (get_or_default s k d 10 less) ∙ e))

abbrev AreSeveral : List (List ℕ) → Type 0
AreSeveral [] = ⊥
AreSeveral (s ∷ []) = ⊥
AreSeveral (s ∷ t ∷ lines) = ⊤

several_behind : (s : List ℕ) (lines : List (List ℕ)) → 1 ≤ length lines → AreSeveral (s ∷ lines)
several_behind s [] h = absurd (omega arith)
several_behind s (t ∷ lines) h = tt

several_onto : (c : ℕ) (lines : List (List ℕ)) → AreSeveral lines → AreSeveral (onto_first c lines)
several_onto c [] h = absurd h
several_onto c (s ∷ []) h = absurd h
several_onto c (s ∷ t ∷ lines) h = tt

feed_behind : (c : ℕ) (s : List ℕ) → is_feed c ≡ false → Contains (c ∷ s) 10 → Contains s 10
feed_behind c s f (zero, less, e) = absurd (eqb-false c 10 f e)
feed_behind c s f (suc k, less, e) = (k, omega arith, e)

several_lines : (s : List ℕ) → Contains s 10 → AreSeveral (slice_split is_feed s)
several_lines [] (k, less, e) = absurd (omega arith)
several_lines (c ∷ s) h = by_test (is_feed c) refl (λ k. several_lines s k)
  where
    parts : List (List ℕ)
    parts = slice_split is_feed s

    by_test : (b : Bool) → is_feed c ≡ b → (Contains s 10 → AreSeveral parts) → AreSeveral (if b then [] ∷ parts else onto_first c parts)
    by_test true e behind = several_behind [] parts (omega (arith, length-slice_split is_feed s))
    by_test false e behind = several_onto c parts (behind (feed_behind c s e h))

pub several_none : (columns : Columns) (lines : List (List ℕ)) (flat : Bool) → AreSeveral lines → spelled_line (seq (lines_docs columns lines)) flat ≡ None
unfolding spelled_line spelled_all
several_none columns [] flat h = absurd h
several_none columns (s ∷ []) flat h = absurd h
several_none columns (s ∷ t ∷ lines) flat h = seq_spelled (lines_docs columns (s ∷ t ∷ lines)) flat tt

one_spelled : (columns : Columns) (s : List ℕ) (flat : Bool) → spelled_line (seq (line_doc columns s ∷ [])) flat ≡ Some (spelled_text s (length_in columns s))
unfolding spelled_line
one_spelled columns s flat = seq_spelled (line_doc columns s ∷ []) flat tt ∙ all_one (line_doc columns s) flat

pub items_spelled : (columns : Columns) (ts : List Token) (item : ℕ) (flat : Bool) →
    let s = spelling_at ts item in
    (IsOneLine s → spelled_line (item_doc columns ts item) flat ≡ Some (spelled_text s (length_in columns s)))
    × (Contains s 10 → spelled_line (item_doc columns ts item) flat ≡ None)
items_spelled columns ts item flat =
    let s = spelling_at ts item in (
      λ h. ap (λ (lines : List (List ℕ)). spelled_line (seq (lines_docs columns lines)) flat) (slice_split_none is_feed s (no_feed_at s h))
          ∙ one_spelled columns s flat,
      λ h. several_none columns (slice_split is_feed s) flat (several_lines s h),
    )

-- gaps
hard_none : (blanks : ℕ) (flat : Bool) → spelled_all (replicate blanks bare_break ++ Hard ∷ []) flat ≡ None
unfolding spelled_line spelled_all
hard_none zero flat = refl
hard_none (suc blanks) flat = refl

pub separator_spelled : (s : Separator) (flat : Bool) → spelled_all (separator_docs s) flat ≡ spelled_separator s flat
unfolding spelled_line spelled_all
separator_spelled separator.Empty flat = refl
separator_spelled separator.Space flat = refl
separator_spelled separator.Line true = refl
separator_spelled separator.Line false = refl
separator_spelled (separator.Hard blanks) flat = hard_none blanks flat

pub gaps_spelled : (ts : List Token) (before next : ℕ) (a b : Token) (w : Want) (flat : Bool) → slice_get ts before ≡ Some a → slice_get ts next ≡ Some b →
    spelled_all (gap_docs ts before next w) flat ≡ spelled_separator (separator_between a b w) flat
gaps_spelled ts before next a b w flat e f =
    ap₂ (λ (o p : Option Token). spelled_all (docs_between o p w) flat) e f ∙ separator_spelled (separator_between a b w) flat

-- a want that is a line or a space where flat
abbrev pub IsSoft : Want → Type 0
IsSoft want.Nothing = ⊥
IsSoft want.Space = ⊤
IsSoft want.Line = ⊤
IsSoft want.Must = ⊥

wanted_soft : (needs : Bool) (w : Want) → IsSoft w → spelled_all (separator_docs (as_wanted needs w)) true ≡ spelled_all (separator_docs (as_wanted needs want.Space)) true
unfolding spelled_line spelled_all
wanted_soft needs want.Nothing h = absurd h
wanted_soft needs want.Space h = refl
wanted_soft true want.Line h = refl
wanted_soft false want.Line h = refl
wanted_soft needs want.Must h = absurd h

between_soft : (trailing broken needs : Bool) (blanks : ℕ) (w : Want) → IsSoft w →
    spelled_all (separator_docs (if trailing then separator.Space else if broken then separator.Hard blanks else as_wanted needs w)) true
    ≡ spelled_all (separator_docs (if trailing then separator.Space else if broken then separator.Hard blanks else as_wanted needs want.Space)) true
between_soft false false needs blanks w h = wanted_soft needs w h
between_soft _ _ needs blanks w h = refl

docs_soft : (o p : Option Token) (w : Want) → IsSoft w → spelled_all (docs_between o p w) true ≡ spelled_all (docs_between o p want.Space) true
docs_soft (Some a) (Some b) w h = between_soft (trails b) (needs_break a b) (needs_gap a.kind a.spelling b.spelling) b.blanks w h
docs_soft _ _ w h = refl

pub gap_soft : (ts : List Token) (before next : ℕ) (w : Want) → IsSoft w → spelled_all (gap_docs ts before next w) true ≡ spelled_all (gap_docs ts before next want.Space) true
gap_soft ts before next w h = docs_soft (slice_get ts before) (slice_get ts next) w h

-- steps
pub steps_append : (ts : List Token) (before : ℕ) (steps more : List Step) → steps_docs ts before (steps ++ more) ≡ steps_docs ts before steps ++ steps_docs ts (steps_last before steps) more
unfolding steps_docs steps_last
steps_append ts before [] more = refl
steps_append ts before (s ∷ steps) more =
    let gap : List Doc = gap_docs ts before s.part.first s.want in
    ap (λ (ds : List Doc). gap ++ s.part.doc ∷ ds) (steps_append ts s.part.last steps more)
    ∙ sym (append_assoc gap (s.part.doc ∷ steps_docs ts s.part.last steps) (steps_docs ts (steps_last s.part.last steps) more))

pub steps_spelled : (ts : List Token) (before : ℕ) (steps more : List Step) (s : Step) (flat : Bool) →
    (spelled_all (steps_docs ts before (steps ++ more)) flat
    ≡ spelled_both (spelled_all (steps_docs ts before steps) flat) (spelled_all (steps_docs ts (steps_last before steps) more) flat))
    × (spelled_all (steps_docs ts before (s ∷ [])) flat
    ≡ spelled_both (spelled_all (gap_docs ts before s.part.first s.want) flat) (spelled_line s.part.doc flat))
unfolding steps_docs
steps_spelled ts before steps more s flat =
    let gap : List Doc = gap_docs ts before s.part.first s.want in (
      ap (λ (ds : List Doc). spelled_all ds flat) (steps_append ts before steps more)
          ∙ all_append (steps_docs ts before steps) (steps_docs ts (steps_last before steps) more) flat,
      all_append gap (s.part.doc ∷ []) flat ∙ ap (spelled_both (spelled_all gap flat)) (all_one s.part.doc flat),
    )

-- slots, prefixes and skips
aligned_spelled : (leads : List (Entry Part)) (d : Doc) (flat : Bool) → spelled_line (aligned_behind leads d) flat ≡ spelled_line d flat
unfolding spelled_line
aligned_spelled [] d flat = refl
aligned_spelled (c ∷ leads) d flat = refl

row_spelled : (ts : List Token) (steps : List Step) (flat : Bool) → steps ≢ [] → spelled_line (seq (row_docs ts steps)) flat ≡ spelled_all (row_docs ts steps) flat
row_spelled ts [] flat h = absurd (h refl)
row_spelled ts (s ∷ steps) flat h = seq_spelled (row_docs ts (s ∷ steps)) flat tt

pub slots_spelled : (ts : List Token) (s : Slot Part) (flat : Bool) → slot_steps s ≢ [] → spelled_line (slot_doc ts s) flat ≡ spelled_all (row_docs ts (slot_steps s)) flat
slots_spelled ts s flat h = aligned_spelled s.leads (seq (row_docs ts (slot_steps s))) flat ∙ row_spelled ts (slot_steps s) flat h

pub prefixed_spelled : (ts : List Token) (item : ℕ) (inner : Part) (flat : Bool) →
    spelled_line (prefixed_doc ts item [] inner) flat
    ≡ spelled_both (spelled_line (mark_doc ts item) flat)
    (spelled_both (spelled_all (gap_docs ts item inner.first want.Nothing) flat) (spelled_line inner.doc flat))
unfolding spelled_line steps_docs
prefixed_spelled ts item inner flat =
    let gap : List Doc = gap_docs ts item inner.first want.Nothing in
    ap (spelled_both (spelled_line (mark_doc ts item) flat))
    (seq_spelled (gap ++ inner.doc ∷ []) flat (has_part gap inner.doc [])
    ∙ all_append gap (inner.doc ∷ []) flat
    ∙ ap (spelled_both (spelled_all gap flat)) (all_one inner.doc flat))
