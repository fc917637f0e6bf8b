-- What stands behind an item of a list on one line: flat, lines are spaces, and otherwise they are breaks.
use Rattle.std.proofs.Common.{◌≡◌, ℕ, Bool, true, false, List, [], ◌∷◌, ◌++◌, append_assoc, refl, sym, ◌∙◌, ap, subst, inl, inr, Option, None}
use Rattle.std.specs.List.{AllByRecursion}
use Rattle.std.specs.Prelude.{if◌then◌else◌}
use Rattle.rf_base_document.specs.Document.{Doc}
use Rattle.rf_base_grammar.specs.Token.{Token}
use Rattle.rf_base_grammar.specs.Woven.{trails}
use Rattle.rf_base_tree.specs.declared.separators.Want.{Want}
use Rattle.rf_base_tree.specs.declared.separators.Want.TheVariants as want
use Rattle.rf_base_tree.specs.declared.separators.Separator.TheVariants as separator
use Rattle.rf_base_tree.specs.Slots.{Slot}
use Rattle.rf_base_tree.specs.Cut.{needs_gap, needs_break, as_wanted}
use Rattle.rf_base_file.specs.Rows.{Part, gap_docs, Step, step, steps_docs, steps_last, steps_wanting, row_docs, slot_steps, slot_doc, inner_docs}
use Rattle.rf_base_file.proofs.Parts.{step_parts}
use Rattle.rf_base_lines.specs.Spelled.{Spelled, spelled_both, spelled_line, spelled_all}
use Rattle.rf_base_lines.specs.Lists.{spelled_separator, between_docs, MayBreak, EachMayBreak, SomeBreaks}
use Rattle.rf_base_lines.proofs.SpelledRows.{both_none, all_append, HasPart, has_part, gaps_spelled, IsSoft, gap_soft, slots_spelled}

-- what is written of a row matters only by what is written of its parts
behind_is : (xs : List Doc) (d : Doc) (rest : List Doc) (flat : Bool) (o : Option Spelled) → spelled_all rest flat ≡ o →
    spelled_all (xs ++ d ∷ rest) flat ≡ spelled_both (spelled_all xs flat) (spelled_both (spelled_line d flat) o)
unfolding spelled_all
behind_is xs d rest flat o e =
    all_append xs (d ∷ rest) flat ∙ ap (λ (z : Option Spelled). spelled_both (spelled_all xs flat) (spelled_both (spelled_line d flat) z)) e

pub behind_none : (xs : List Doc) (d : Doc) (rest : List Doc) (flat : Bool) → spelled_all rest flat ≡ None → spelled_all (xs ++ d ∷ rest) flat ≡ None
behind_none xs d rest flat e =
    behind_is xs d rest flat None e ∙ ap (spelled_both (spelled_all xs flat)) (both_none (spelled_line d flat)) ∙ both_none (spelled_all xs flat)

before_none : (xs rest : List Doc) (flat : Bool) → spelled_all xs flat ≡ None → spelled_all (xs ++ rest) flat ≡ None
before_none xs rest flat e = all_append xs rest flat ∙ ap (λ (z : Option Spelled). spelled_both z (spelled_all rest flat)) e

pub row_same : (xs ys : List Doc) (d : Doc) (rest other : List Doc) (flat : Bool) → spelled_all xs flat ≡ spelled_all ys flat → spelled_all rest flat ≡ spelled_all other flat →
    spelled_all (xs ++ d ∷ rest) flat ≡ spelled_all (ys ++ d ∷ other) flat
row_same xs ys d rest other flat e f =
    behind_is xs d rest flat (spelled_all other flat) f
    ∙ ap (λ (z : Option Spelled). spelled_both z (spelled_both (spelled_line d flat) (spelled_all other flat))) e
    ∙ sym (behind_is ys d other flat (spelled_all other flat) refl)

here_none : (xs : List Doc) (d : Doc) (rest : List Doc) (flat : Bool) → spelled_line d flat ≡ None → spelled_all (xs ++ d ∷ rest) flat ≡ None
here_none xs d rest flat e =
    behind_is xs d rest flat (spelled_all rest flat) refl
    ∙ ap (λ (z : Option Spelled). spelled_both (spelled_all xs flat) (spelled_both z (spelled_all rest flat))) e ∙ both_none (spelled_all xs flat)

-- a step and what stands behind it
pub inner_first : (ts : List Token) (before : ℕ) (s : Step) (steps : List Step) (closer : ℕ) →
    inner_docs ts before (s ∷ steps) closer ≡ gap_docs ts before s.part.first s.want ++ s.part.doc ∷ inner_docs ts s.part.last steps closer
unfolding steps_docs steps_last
inner_first ts before s steps closer =
    append_assoc (gap_docs ts before s.part.first s.want) (s.part.doc ∷ steps_docs ts s.part.last steps) (gap_docs ts (steps_last s.part.last steps) closer want.Nothing)

pub inner_spelled : (ts : List Token) (before : ℕ) (s : Step) (steps : List Step) (closer : ℕ) (flat : Bool) →
    spelled_all (inner_docs ts before (s ∷ steps) closer) flat
    ≡ spelled_all (gap_docs ts before s.part.first s.want ++ s.part.doc ∷ inner_docs ts s.part.last steps closer) flat
inner_spelled ts before s steps closer flat = ap (λ (ds : List Doc). spelled_all ds flat) (inner_first ts before s steps closer)

pub inner_part : (ts : List Token) (before : ℕ) (steps : List Step) (closer : ℕ) (p : Part) (parts : List Part) → step_parts steps ≡ p ∷ parts → HasPart (inner_docs ts before steps closer)
unfolding step_parts
inner_part ts before [] closer p parts e = cc
inner_part ts before (s ∷ steps) closer p parts e =
    subst HasPart (sym (inner_first ts before s steps closer))
    (has_part (gap_docs ts before s.part.first s.want) s.part.doc (inner_docs ts s.part.last steps closer))

-- where flat, a line is a space
abbrev pub AllSoft : List Step → Type 0
AllSoft steps = AllByRecursion (λ s. IsSoft s.want) steps

pub wanting_soft : (w : Want) (parts : List Part) → IsSoft w → AllSoft (steps_wanting w parts)
wanting_soft w [] h = tt
wanting_soft w (p ∷ parts) h = (h, wanting_soft w parts h)

pub soft_append : (steps more : List Step) → AllSoft steps → AllSoft more → AllSoft (steps ++ more)
soft_append [] more h k = k
soft_append (s ∷ steps) more h k = (h.0, soft_append steps more h.1 k)

inner_spaces : (ts : List Token) (before : ℕ) (steps : List Step) (closer : ℕ) → AllSoft steps →
    spelled_all (inner_docs ts before steps closer) true ≡ spelled_all (inner_docs ts before (steps_wanting want.Space (step_parts steps)) closer) true
unfolding step_parts
inner_spaces ts before [] closer h = refl
inner_spaces ts before (s ∷ steps) closer h =
    let spaces : List Step = steps_wanting want.Space (step_parts steps) in
    inner_spelled ts before s steps closer true
    ∙ row_same (gap_docs ts before s.part.first s.want) (gap_docs ts before s.part.first want.Space) s.part.doc (inner_docs ts s.part.last steps closer)
    (inner_docs ts s.part.last spaces closer) true (gap_soft ts before s.part.first s.want h.0) (inner_spaces ts s.part.last steps closer h.1)
    ∙ sym (inner_spelled ts before (step want.Space s.part) spaces closer true)

pub inner_soft : (ts : List Token) (before : ℕ) (steps : List Step) (parts : List Part) (closer : ℕ) → AllSoft steps → step_parts steps ≡ parts →
    spelled_all (inner_docs ts before steps closer) true ≡ spelled_all (inner_docs ts before (steps_wanting want.Space parts) closer) true
inner_soft ts before steps parts closer h e =
    inner_spaces ts before steps closer h ∙ ap (λ (ps : List Part). spelled_all (inner_docs ts before (steps_wanting want.Space ps) closer) true) e

-- otherwise it is a break
line_breaks : (ts : List Token) (before next : ℕ) → MayBreak ts before next → spelled_all (gap_docs ts before next want.Line) false ≡ None
line_breaks ts before next h =
    gaps_spelled ts before next h.0 h.1 want.Line false h.2 h.3
    ∙ by_tests (trails h.1) (needs_break h.0 h.1) (needs_gap h.0.kind h.0.spelling h.1.spelling) h.1.blanks h.4
  where
    by_tests : (trailing broken needs : Bool) (blanks : ℕ) → trailing ≡ false →
        spelled_separator (if trailing then separator.Space else if broken then separator.Hard blanks else as_wanted needs want.Line) false ≡ None
    by_tests true broken needs blanks e = cc
    by_tests false true needs blanks e = refl
    by_tests false false true blanks e = refl
    by_tests false false false blanks e = refl

pub inner_breaks : (ts : List Token) (before : ℕ) (headers : List Part) (b : Part) (bodies : List Part) (closer : ℕ) → EachMayBreak ts before (headers ++ b ∷ bodies) →
    spelled_all (inner_docs ts before (steps_wanting want.Space headers ++ steps_wanting want.Line (b ∷ bodies)) closer) false ≡ None
unfolding EachMayBreak
inner_breaks ts before [] b bodies closer h =
    inner_spelled ts before (step want.Line b) (steps_wanting want.Line bodies) closer false
    ∙ before_none (gap_docs ts before b.first want.Line) (b.doc ∷ inner_docs ts b.last (steps_wanting want.Line bodies) closer) false (line_breaks ts before b.first h.0)
inner_breaks ts before (p ∷ headers) b bodies closer h =
    let rest : List Step = steps_wanting want.Space headers ++ steps_wanting want.Line (b ∷ bodies) in
    inner_spelled ts before (step want.Space p) rest closer false
    ∙ behind_none (gap_docs ts before p.first want.Space) p.doc (inner_docs ts p.last rest closer) false (inner_breaks ts p.last headers b bodies closer h.1)

pub may_break_behind : (ts : List Token) (before : ℕ) (w : Want) (headers more : List Part) → EachMayBreak ts before (headers ++ more) →
    EachMayBreak ts (steps_last before (steps_wanting w headers)) more
unfolding EachMayBreak steps_last
may_break_behind ts before w [] more h = h
may_break_behind ts before w (p ∷ headers) more h = may_break_behind ts p.last w headers more h.1

-- a slot in which a line is wanted behind its first step
pub comments_break : (ts : List Token) (s : Slot Part) (w : Want) (first next : Part) (steps : List Step) →
    slot_steps s ≡ step w first ∷ step want.Line next ∷ steps → MayBreak ts first.last next.first → spelled_line (slot_doc ts s) false ≡ None
unfolding steps_docs spelled_all
comments_break ts s w first next steps is may =
    let gap : List Doc = gap_docs ts first.last next.first want.Line in
    slots_spelled ts s false (λ none. (let never : [] ≡ step w first ∷ step want.Line next ∷ steps = sym none ∙ is in cc))
    ∙ ap (λ (ss : List Step). spelled_all (row_docs ts ss) false) is
    ∙ ap (spelled_both (spelled_line first.doc false)) (before_none gap (next.doc ∷ steps_docs ts next.last steps) false (line_breaks ts first.last next.first may))
    ∙ both_none (spelled_line first.doc false)

-- parts of which one is on no line unless flat
some_breaks : (ts : List Token) (before : ℕ) (parts : List Part) (closer : ℕ) → SomeBreaks parts →
    spelled_all (inner_docs ts before (steps_wanting want.Space parts) closer) false ≡ None
unfolding SomeBreaks
some_breaks ts before [] closer h = absurd h
some_breaks ts before (p ∷ parts) closer h =
    let rest : List Step = steps_wanting want.Space parts in
    let gap : List Doc = gap_docs ts before p.first want.Space in
    inner_spelled ts before (step want.Space p) rest closer false
    ∙ elim h [
      | inl here ↦ here_none gap p.doc (inner_docs ts p.last rest closer) false here
      | inr behind ↦ behind_none gap p.doc (inner_docs ts p.last rest closer) false (some_breaks ts p.last parts closer behind)
    ]

pub parts_break : (ts : List Token) (opener : ℕ) (parts : List Part) (closer : ℕ) → SomeBreaks parts → spelled_all (between_docs ts opener parts closer) false ≡ None
unfolding SomeBreaks
parts_break ts opener [] closer h = absurd h
parts_break ts opener (p ∷ parts) closer h =
    let rest : List Step = steps_wanting want.Space parts in
    let gap : List Doc = gap_docs ts opener p.first want.Nothing in
    inner_spelled ts opener (step want.Nothing p) rest closer false
    ∙ elim h [
      | inl here ↦ here_none gap p.doc (inner_docs ts p.last rest closer) false here
      | inr behind ↦ behind_none gap p.doc (inner_docs ts p.last rest closer) false (some_breaks ts p.last parts closer behind)
    ]
