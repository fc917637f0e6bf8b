-- Words at the front of a text: what the reader's tests say, in the definitions' words.
use Rattle.std.proofs.Common.{◌≡◌, ℕ, inl, inr, cond, true, false, Some, None, List, [], ◌∷◌, ◌++◌, refl, sym, subst, eqb}
use Rattle.std.specs.Prelude.{is_some, ⊤}
use Rattle.std.specs.Str.{bytes_eq}
use Rattle.std.proofs.lemmas.Bool.{eqb-true, eq-eqb, both_ways, false≢true, or_cases, or_left, or_right, false_from_ne_true}
use Rattle.std.proofs.lemmas.Slice.Eq.{bytes_eq-Decides}
use Rattle.rf_base_grammar.specs.Characters.{IsOneOf, BeginsWith}
use Rattle.rf_base_grammar.specs.Runs.{BeginsWithOneOf}
use Rattle.rf_base_grammar.specs.Reader.{strip, begins, among, begins_among, is_nothing}

-- what holds of each of these words holds of the text that is one of them
abbrev pub HoldsOfEach : (List ℕ → Type 0) → List (List ℕ) → Type 0
HoldsOfEach P [] = ⊤
HoldsOfEach P (word ∷ words) = P word × HoldsOfEach P words

pub one_of_each : (P : List ℕ → Type 0) (words : List (List ℕ)) (text : List ℕ) → HoldsOfEach P words →
    IsOneOf words text → P text
one_of_each P [] text h i = absurd i
one_of_each P (word ∷ words) text h (inl e) = subst P (sym e) h.0
one_of_each P (word ∷ words) text h (inr i) = one_of_each P words text h.1 i

-- where a word is stripped, the text is the word and what is behind it
pub strip_found : (word text behind : List ℕ) → strip word text ≡ Some behind → text ≡ word ++ behind
strip_found [] text behind h = cc
strip_found (c ∷ word) [] behind h = cc
strip_found (c ∷ word) (d ∷ text) behind h =
    elim (eqb c d) as (λ b. eqb c d ≡ b → cond b (strip word text) None ≡ Some behind →
    d ∷ text ≡ c ∷ (word ++ behind)) [
      | true ↦ λ e k. let same : c ≡ d = eqb-true c d e in let rest = strip_found word text behind k in cc
      | false ↦ λ e k. cc
    ] refl h

-- a word is stripped where the text begins with it
pub strip_word : (word behind : List ℕ) → strip word (word ++ behind) ≡ Some behind
strip_word [] behind = refl
strip_word (c ∷ word) behind = rw (eq-eqb c c refl) (strip_word word behind)

pub begins_found : (word text : List ℕ) → begins word text ≡ true → BeginsWith word text
begins_found word text h =
    elim (strip word text) as (λ o. strip word text ≡ o → is_some o ≡ true → BeginsWith word text) [
      | None ↦ λ e k. absurd (false≢true k)
      | Some behind ↦ λ e k. (behind, strip_found word text behind e)
    ] refl h

pub begins_word : (word text : List ℕ) → BeginsWith word text → begins word text ≡ true
begins_word word text h = rw (h.1, strip_word word h.0) refl

-- what doesn't begin with the word
pub strip_none : (word text : List ℕ) → (BeginsWith word text → ⊥) → strip word text ≡ None
strip_none word text h =
    elim (strip word text) as (λ o. strip word text ≡ o → strip word text ≡ None) [
      | None ↦ λ e. e
      | Some behind ↦ λ e. absurd (h (behind, strip_found word text behind e))
    ] refl

pub begins_not : (word text : List ℕ) → (BeginsWith word text → ⊥) → begins word text ≡ false
begins_not word text h = rw (strip_none word text h) refl

pub not_begins : (word text : List ℕ) → begins word text ≡ false → BeginsWith word text → ⊥
not_begins word text h b = both_ways (begins word text) h (begins_word word text b)

pub not_stripped : (word text : List ℕ) → strip word text ≡ None → BeginsWith word text → ⊥
not_stripped word text h b = let s : strip word text ≡ Some b.0 = rw b.1 (strip_word word b.0) in cc

pub same_found : (a b : List ℕ) → bytes_eq a b ≡ true → a ≡ b
same_found a b h = (bytes_eq-Decides a b).0 h

pub same_from : (a b : List ℕ) → a ≡ b → bytes_eq a b ≡ true
same_from a b e = (bytes_eq-Decides a b).1 e

pub same_not : (a b : List ℕ) → (a ≡ b → ⊥) → bytes_eq a b ≡ false
same_not a b h = false_from_ne_true (bytes_eq a b) (λ e. h (same_found a b e))

pub among_found : (words : List (List ℕ)) (text : List ℕ) → among words text ≡ true → IsOneOf words text
among_found [] text h = absurd (false≢true h)
among_found (word ∷ words) text h =
    elim (or_cases _ _ h) [
      | inl e ↦ inl (sym (same_found word text e))
      | inr r ↦ inr (among_found words text r)
    ]

pub among_one : (words : List (List ℕ)) (text : List ℕ) → IsOneOf words text → among words text ≡ true
among_one [] text h = absurd h
among_one (word ∷ words) text (inl e) = or_left _ _ (same_from word text (sym e))
among_one (word ∷ words) text (inr r) = or_right _ _ (among_one words text r)

pub begins_among_found : (words : List (List ℕ)) (text : List ℕ) → begins_among words text ≡ true →
    BeginsWithOneOf words text
begins_among_found [] text h = absurd (false≢true h)
begins_among_found (word ∷ words) text h =
    elim (or_cases _ _ h) [
      | inl e ↦ inl (begins_found word text e)
      | inr r ↦ inr (begins_among_found words text r)
    ]

pub begins_among_one : (words : List (List ℕ)) (text : List ℕ) → BeginsWithOneOf words text →
    begins_among words text ≡ true
begins_among_one [] text h = absurd h
begins_among_one (word ∷ words) text (inl b) = or_left _ _ (begins_word word text b)
begins_among_one (word ∷ words) text (inr r) = or_right _ _ (begins_among_one words text r)

pub nothing_found : (text : List ℕ) → is_nothing text ≡ true → text ≡ []
nothing_found [] h = refl
nothing_found (c ∷ text) h = absurd (false≢true h)

pub nothing_not : (text : List ℕ) → (text ≡ [] → ⊥) → is_nothing text ≡ false
nothing_not [] h = absurd (h refl)
nothing_not (c ∷ text) h = refl
