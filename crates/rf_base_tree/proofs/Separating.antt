-- Between neighbours stands the separator that is computed, and no other.
use Rattle.std.proofs.Common.{◌≡◌, ◌↔◌, ℕ, inl, inr, eqb, Bool, true, false, List, [], ◌∷◌, refl}
use Rattle.std.specs.Prelude.{codes, not, ◌||◌, if◌then◌else◌}
use Rattle.std.proofs.lemmas.Bool.{false≢true, both_ways, and_from, and_parts, or_cases, or_left, or_right, not-true, not_from_false, eq-eqb, ne_eqb}
use Rattle.rf_base_grammar.specs.Characters.{is_delimiter}
use Rattle.rf_base_grammar.specs.Spelled.{unquotes}
use Rattle.rf_base_grammar.specs.Token.{Token, is_line_comment}
use Rattle.rf_base_grammar.specs.Woven.{BeginsUndelimited, NeedsGap, Needs, ends_line, trails}
use Rattle.rf_base_grammar.specs.declared.kinds.Kind.{Kind}
use Rattle.rf_base_grammar.specs.declared.kinds.Kind.TheVariants.{Prefix, Dot, Atom, Here, Line, Lang}
use Rattle.rf_base_grammar.proofs.Words.{begins_found, begins_word, among_found, among_one}
use Rattle.rf_base_tree.specs.Separators.{NeedsBreak, IsAsWanted, Separates}
use Rattle.rf_base_tree.specs.Cut.{begins_undelimited, needs_gap, as_wanted, needs_break, separator_between}
use Rattle.rf_base_tree.specs.declared.separators.Want.{Want}
use Rattle.rf_base_tree.specs.declared.separators.Want.TheVariants as want
use Rattle.rf_base_tree.specs.declared.separators.Separator.{Separator}
use Rattle.rf_base_tree.specs.declared.separators.Separator.TheVariants as separator

-- the test says whether the text begins with a character that is no delimiter
undelimited : (text : List ℕ) → BeginsUndelimited text ↔ (begins_undelimited text ≡ true)
undelimited [] = (absurd, λ e. false≢true e)
undelimited (c ∷ text) = (not_from_false (is_delimiter c), not-true (is_delimiter c))

-- the test says whether a gap is needed; behind what ends its line the test for a break comes first
pub needs_told : (kind : Kind) (spelling next : List ℕ) →
    NeedsGap kind spelling next ↔ (needs_gap kind spelling next ≡ true)
needs_told Atom spelling next = undelimited next
needs_told Dot spelling next = undelimited next
needs_told Prefix spelling next = (
  λ h. and_from _ _ (among_one unquotes spelling h.0) (begins_word (codes "@") next h.1),
  λ e. let both = and_parts _ _ e in (among_found unquotes spelling both.0, begins_found (codes "@") next both.1),
)
needs_told Here spelling next = (λ h. refl, λ e. tt)
needs_told Line spelling next = (λ h. refl, λ e. tt)
needs_told Lang spelling next = (λ h. refl, λ e. tt)
needs_told _ spelling next = (absurd, false≢true)

-- the test says whether a line break is needed
break_told : (a b : Token) → NeedsBreak a b ↔ (needs_break a b ≡ true)
break_told a b = (
  by_way,
  λ e. elim (or_cases (ends_line a.kind || is_line_comment b.kind) (not (eqb b.blanks 0)) e) [
    | inl x ↦ elim (or_cases (ends_line a.kind) (is_line_comment b.kind) x) [
      | inl y ↦ inl y
      | inr z ↦ inr (inl z)
    ]
    | inr y ↦ inr (inr (λ w. both_ways (eqb b.blanks 0) (not-true (eqb b.blanks 0) y) (eq-eqb b.blanks 0 w)))
  ],
)
  where
    kinds : Bool
    kinds = ends_line a.kind || is_line_comment b.kind

    by_way : NeedsBreak a b → needs_break a b ≡ true
    by_way (inl x) = or_left kinds (not (eqb b.blanks 0)) (or_left (ends_line a.kind) (is_line_comment b.kind) x)
    by_way (inr (inl x)) = or_left kinds (not (eqb b.blanks 0)) (or_right (ends_line a.kind) (is_line_comment b.kind) x)
    by_way (inr (inr x)) = or_right kinds (not (eqb b.blanks 0)) (not_from_false (eqb b.blanks 0) (ne_eqb b.blanks 0 x))

-- where no break is needed, what is wanted stands
wanted_told : (a b : Token) (needs : Bool) (w : Want) (s : Separator) → Needs a b ↔ (needs ≡ true) →
    IsAsWanted a b w s ↔ (s ≡ as_wanted needs w)
wanted_told a b true want.Nothing s h = (by_way, λ e. inl (h.1 refl, e))
  where
    by_way : IsAsWanted a b want.Nothing s → s ≡ separator.Space
    by_way (inl x) = x.1
    by_way (inr x) = absurd (x.0 (h.1 refl))
wanted_told a b false want.Nothing s h = (by_way, λ e. inr (λ n. false≢true (h.0 n), e))
  where
    by_way : IsAsWanted a b want.Nothing s → s ≡ separator.Empty
    by_way (inl x) = absurd (false≢true (h.0 x.0))
    by_way (inr x) = x.1
wanted_told a b _ _ s h = (λ e. e, λ e. e)

-- what stands, by the two tests
by_tests : (a b : Token) (w : Want) (s : Separator) (trailing breaks : Bool) → trails b ≡ trailing →
    needs_break a b ≡ breaks →
    Separates a b w s
    ↔ (s ≡ if trailing then separator.Space else if breaks then separator.Hard b.blanks else as_wanted
    (needs_gap a.kind a.spelling b.spelling) w)
by_tests a b w s true breaks t k = (by_way, λ e. inl (t, e))
  where
    by_way : Separates a b w s → s ≡ separator.Space
    by_way (inl x) = x.1
    by_way (inr (inl x)) = absurd (both_ways (trails b) x.0 t)
    by_way (inr (inr x)) = absurd (both_ways (trails b) x.0 t)
by_tests a b w s false true t k = (by_way, λ e. inr (inl (t, (break_told a b).1 k, e)))
  where
    by_way : Separates a b w s → s ≡ separator.Hard b.blanks
    by_way (inl x) = absurd (both_ways (trails b) t x.0)
    by_way (inr (inl x)) = x.2
    by_way (inr (inr x)) = absurd (x.1 ((break_told a b).1 k))
by_tests a b w s false false t k = (by_way, λ e. inr (inr (t, no_break, wants.1 e)))
  where
    no_break : NeedsBreak a b → ⊥
    no_break n = both_ways (needs_break a b) k ((break_told a b).0 n)

    wants : IsAsWanted a b w s ↔ (s ≡ as_wanted (needs_gap a.kind a.spelling b.spelling) w)
    wants = wanted_told a b (needs_gap a.kind a.spelling b.spelling) w s (needs_told a.kind a.spelling b.spelling)

    by_way : Separates a b w s → s ≡ as_wanted (needs_gap a.kind a.spelling b.spelling) w
    by_way (inl x) = absurd (both_ways (trails b) t x.0)
    by_way (inr (inl x)) = absurd (no_break x.1)
    by_way (inr (inr x)) = wants.0 x.2

-- between neighbours stands the separator that is computed, and no other
pub Separates-computed : (a b : Token) (w : Want) (s : Separator) → Separates a b w s ↔ (s ≡ separator_between a b w)
Separates-computed a b w s = by_tests a b w s (trails b) (needs_break a b) refl refl
