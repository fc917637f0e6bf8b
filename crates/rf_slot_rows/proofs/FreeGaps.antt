-- Gaps in which a line may stand, and those that are the same whatever is wanted.
use Rattle.std.proofs.Common.{◌≡◌, ℕ, zero, suc, Bool, true, false, Option, Some, List, [], ◌∷◌, refl, sym}
use Rattle.std.specs.Prelude.{slice_get, if◌then◌else◌}
use Rattle.rf_base_document.specs.Document.{Doc, Newline}
use Rattle.rf_base_grammar.specs.Token.{Token}
use Rattle.rf_base_grammar.specs.Woven.{trails}
use Rattle.rf_base_tree.specs.Cut.{needs_break, needs_gap, as_wanted}
use Rattle.rf_base_tree.specs.declared.separators.Want.{Want}
use Rattle.rf_base_tree.specs.declared.separators.Want.TheVariants as want
use Rattle.rf_base_tree.specs.declared.separators.Separator.{Separator}
use Rattle.rf_base_tree.specs.declared.separators.Separator.TheVariants as separator
use Rattle.rf_base_file.specs.Rows.{separator_docs, docs_between, gap_docs}
use Rattle.rf_rows.specs.declared.pieces.Fill.{Fill}
use Rattle.rf_rows.specs.declared.pieces.Fill.TheVariants as fill
use Rattle.rf_rows.specs.Layouts.{fill_doc}
use Rattle.rf_slot_rows.specs.Bodies.{want_of}

-- what stands between two items, by the tests of the definition
abbrev pub by_tests : Bool → Bool → Bool → ℕ → Want → Separator
by_tests trailing broken needs blanks w =
    if trailing then separator.Space else if broken then separator.Hard blanks else as_wanted needs w

filled : (needs : Bool) (f : Fill) → separator_docs (as_wanted needs (want_of f)) ≡ fill_doc f ∷ []
filled true fill.Space = refl
filled false fill.Space = refl
filled true fill.Newline = refl
filled false fill.Newline = refl
filled true fill.Hard = refl
filled false fill.Hard = refl

hard_apart : (blanks : ℕ) (ds : List Doc) → separator_docs (separator.Hard blanks) ≡ Newline ∷ ds → ⊥
hard_apart zero ds e = cc
hard_apart (suc n) ds e = cc

line_tests : (trailing broken needs : Bool) (blanks : ℕ) (f : Fill) → Newline ∷ [] ≡ separator_docs (by_tests trailing broken needs blanks want.Line) →
    separator_docs (by_tests trailing broken needs blanks (want_of f)) ≡ fill_doc f ∷ []
line_tests true broken needs blanks f e = cc
line_tests false true needs blanks f e = absurd (hard_apart blanks [] (sym e))
line_tests false false needs blanks f e = filled needs f

-- a separator that is no line break
abbrev pub IsOther : Separator → Type 0
IsOther separator.Line = ⊥
IsOther _ = Unit {0}

other_apart : (s : Separator) → IsOther s → separator_docs s ≡ Newline ∷ [] → ⊥
other_apart separator.Line o e = o
other_apart separator.Empty o e = cc
other_apart separator.Space o e = cc
other_apart (separator.Hard blanks) o e = hard_apart blanks [] e

other_tests : (s : Separator) (trailing broken needs : Bool) (blanks : ℕ) (f : Fill) → IsOther s → separator_docs s ≡ separator_docs (by_tests trailing broken needs blanks want.Line) →
    separator_docs s ≡ separator_docs (by_tests trailing broken needs blanks (want_of f))
other_tests s false false true blanks f o e = absurd (other_apart s o e)
other_tests s false false false blanks f o e = absurd (other_apart s o e)
other_tests s _ _ needs blanks f o e = e

line_between : (a b : Option Token) (f : Fill) → Newline ∷ [] ≡ docs_between a b want.Line → docs_between a b (want_of f) ≡ fill_doc f ∷ []
line_between (Some a) (Some b) f e = line_tests (trails b) (needs_break a b) (needs_gap a.kind a.spelling b.spelling) b.blanks f e
line_between _ _ f e = cc

other_between : (s : Separator) (a b : Option Token) (f : Fill) → IsOther s → separator_docs s ≡ docs_between a b want.Line → separator_docs s ≡ docs_between a b (want_of f)
other_between s (Some a) (Some b) f o e = other_tests s (trails b) (needs_break a b) (needs_gap a.kind a.spelling b.spelling) b.blanks f o e
other_between s _ _ f o e = e

pub line_gap : (ts : List Token) (before next : ℕ) (f : Fill) → Newline ∷ [] ≡ gap_docs ts before next want.Line → fill_doc f ∷ [] ≡ gap_docs ts before next (want_of f)
line_gap ts before next f e = sym (line_between (slice_get ts before) (slice_get ts next) f e)

pub other_gap : (s : Separator) (ts : List Token) (before next : ℕ) (f : Fill) → IsOther s → separator_docs s ≡ gap_docs ts before next want.Line → separator_docs s ≡ gap_docs ts before next (want_of f)
other_gap s ts before next f o e = other_between s (slice_get ts before) (slice_get ts next) f o e
