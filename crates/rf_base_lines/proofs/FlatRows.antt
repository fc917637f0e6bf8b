-- Items, gaps and steps that are on one line have no hard newline.
use Rattle.std.proofs.Common.{◌≡◌, ℕ, zero, suc, Bool, true, false, List, [], ◌∷◌, ◌++◌, replicate, sym, ◌∙◌, Option, Some, None}
use Rattle.std.specs.List.{AllByRecursion, slice_split}
use Rattle.std.specs.Prelude.{slice_get, ◌==◌, if◌then◌else◌}
use Rattle.rf_base_document.specs.Document.{Doc, Hard}
use Rattle.rf_base_document.specs.Sequence.{seq}
use Rattle.rf_base_cut.specs.DocumentLines.{IsFlattenable}
use Rattle.rf_base_grammar.specs.Token.{Token}
use Rattle.rf_base_grammar.specs.Woven.{trails}
use Rattle.rf_base_style.specs.declared.columns.Columns.{Columns}
use Rattle.rf_base_style.specs.declared.columns.Columns.TheVariants.{Characters}
use Rattle.rf_base_tree.specs.declared.separators.Want.{Want}
use Rattle.rf_base_tree.specs.declared.separators.Want.TheVariants as want
use Rattle.rf_base_tree.specs.declared.separators.Separator.{Separator}
use Rattle.rf_base_tree.specs.declared.separators.Separator.TheVariants as separator
use Rattle.rf_base_tree.specs.Trees.{spelling_at}
use Rattle.rf_base_tree.specs.Cut.{needs_gap, needs_break, as_wanted, separator_between}
use Rattle.rf_base_file.specs.Rows.{Part, bare_break, line_doc, lines_docs, item_doc, mark_doc, separator_docs, docs_between, gap_docs, Step, steps_docs, prefixed_doc}
use Rattle.rf_base_lines.specs.Spelled.{Spelled, spelled_both, spelled_line, spelled_all}
use Rattle.rf_base_lines.specs.Lists.{spelled_separator}
use Rattle.rf_base_lines.specs.Flattenable.{EachIsFlattenable}
use Rattle.rf_base_lines.proofs.KeptShapes.{row_kept, seq_by_each}
use Rattle.rf_base_lines.proofs.Spelling.{AreBoth, both_some}
use Rattle.rf_base_lines.proofs.SpelledRows.{all_append, several_none, separator_spelled, prefixed_spelled, IsSoft}

-- rows
pub row_flat : (xs ys : List Doc) → EachIsFlattenable xs → EachIsFlattenable ys → EachIsFlattenable (xs ++ ys)
row_flat xs ys h k = row_kept IsFlattenable xs ys h k

pub seq_flat : (ds : List Doc) → EachIsFlattenable ds → IsFlattenable (seq ds)
unfolding IsFlattenable
seq_flat ds h = seq_by_each IsFlattenable tt (λ a b p q. (p, q)) ds h

-- items
lines_flat : (columns : Columns) (lines : List (List ℕ)) (flat : Bool) (l : Spelled) →
    spelled_line (seq (lines_docs columns lines)) flat ≡ Some l → IsFlattenable (seq (lines_docs columns lines))
unfolding IsFlattenable
lines_flat columns [] flat l e = seq_flat [] tt
lines_flat columns (s ∷ []) flat l e = seq_flat (line_doc columns s ∷ []) (tt, tt)
lines_flat columns (s ∷ t ∷ lines) flat l e = let none = several_none columns (s ∷ t ∷ lines) flat tt in cc

pub item_flat : (columns : Columns) (ts : List Token) (item : ℕ) (flat : Bool) (l : Spelled) →
    spelled_line (item_doc columns ts item) flat ≡ Some l → IsFlattenable (item_doc columns ts item)
item_flat columns ts item flat l e = lines_flat columns (slice_split (λ c. c == 10) (spelling_at ts item)) flat l e

-- gaps
separator_flat : (s : Separator) (flat : Bool) (l : Spelled) → spelled_separator s flat ≡ Some l → EachIsFlattenable (separator_docs s)
unfolding IsFlattenable
separator_flat separator.Empty flat l e = tt
separator_flat separator.Space flat l e = (tt, tt)
separator_flat separator.Line flat l e = (tt, tt)
separator_flat (separator.Hard blanks) flat l e = cc

docs_flat : (o p : Option Token) (w : Want) (flat : Bool) (l : Spelled) → spelled_all (docs_between o p w) flat ≡ Some l → EachIsFlattenable (docs_between o p w)
docs_flat (Some a) (Some b) w flat l e =
    let s : Separator = separator_between a b w in separator_flat s flat l (sym (separator_spelled s flat) ∙ e)
docs_flat _ _ w flat l e = tt

pub gap_flat : (ts : List Token) (before next : ℕ) (w : Want) (flat : Bool) (l : Spelled) → spelled_all (gap_docs ts before next w) flat ≡ Some l →
    EachIsFlattenable (gap_docs ts before next w)
gap_flat ts before next w flat l e = docs_flat (slice_get ts before) (slice_get ts next) w flat l e

-- where a gap has no hard newline, it has none where a space or a line is wanted of it
hard_shut : (blanks : ℕ) → EachIsFlattenable (replicate blanks bare_break ++ Hard ∷ []) → ⊥
unfolding IsFlattenable
hard_shut zero h = h.0
hard_shut (suc blanks) h = h.0

wanted_open : (needs : Bool) (w : Want) → IsSoft w → EachIsFlattenable (separator_docs (as_wanted needs w))
unfolding IsFlattenable
wanted_open needs want.Nothing h = absurd h
wanted_open true want.Space h = (tt, tt)
wanted_open false want.Space h = (tt, tt)
wanted_open true want.Line h = (tt, tt)
wanted_open false want.Line h = (tt, tt)
wanted_open needs want.Must h = absurd h

between_open : (trailing broken needs : Bool) (blanks : ℕ) (v w : Want) → IsSoft w →
    EachIsFlattenable (separator_docs (if trailing then separator.Space else if broken then separator.Hard blanks else as_wanted needs v)) →
    EachIsFlattenable (separator_docs (if trailing then separator.Space else if broken then separator.Hard blanks else as_wanted needs w))
unfolding IsFlattenable
between_open true broken needs blanks v w soft h = (tt, tt)
between_open false true needs blanks v w soft h = absurd (hard_shut blanks h)
between_open false false needs blanks v w soft h = wanted_open needs w soft

docs_open : (o p : Option Token) (v w : Want) → IsSoft w → EachIsFlattenable (docs_between o p v) → EachIsFlattenable (docs_between o p w)
docs_open (Some a) (Some b) v w soft h =
    between_open (trails b) (needs_break a b) (needs_gap a.kind a.spelling b.spelling) b.blanks v w soft h
docs_open _ _ v w soft h = tt

pub gap_open : (ts : List Token) (before next : ℕ) (v w : Want) → IsSoft w → EachIsFlattenable (gap_docs ts before next v) →
    EachIsFlattenable (gap_docs ts before next w)
gap_open ts before next v w soft h = docs_open (slice_get ts before) (slice_get ts next) v w soft h

-- what is in a row on one line is so by itself
pub row_parts : (xs ys : List Doc) (flat : Bool) (l : Spelled) → spelled_all (xs ++ ys) flat ≡ Some l →
    AreBoth (spelled_all xs flat) (spelled_all ys flat) l
row_parts xs ys flat l e = both_some (spelled_all xs flat) (spelled_all ys flat) l (sym (all_append xs ys flat) ∙ e)

-- prefixes
pub prefixed_flat : (ts : List Token) (item : ℕ) (inner : Part) (flat : Bool) (l : Spelled) → IsFlattenable inner.doc →
    spelled_line (prefixed_doc ts item [] inner) flat ≡ Some l → IsFlattenable (prefixed_doc ts item [] inner)
unfolding IsFlattenable steps_docs
prefixed_flat ts item inner flat l h e =
    let gap : List Doc = gap_docs ts item inner.first want.Nothing in
    let first : Option Spelled = spelled_line (mark_doc ts item) flat in
    let between : Option Spelled = spelled_all gap flat in
    let last : Option Spelled = spelled_line inner.doc flat in
    let parts = both_some first (spelled_both between last) l (sym (prefixed_spelled ts item inner flat) ∙ e) in
    let behind = both_some between last parts.1 parts.3 in (
      item_flat Characters ts item flat parts.0 parts.2,
      seq_flat (gap ++ inner.doc ∷ []) (row_flat gap (inner.doc ∷ []) (gap_flat ts item inner.first want.Nothing flat behind.0 behind.2) (h, tt)),
    )
