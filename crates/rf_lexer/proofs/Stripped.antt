-- Words at the front of a text, character by character.
use Rattle.std.proofs.Common.{◌≡◌, ℕ, true, false, Option, None, Some, List, [], ◌∷◌, ◌==◌, refl, ap, sym, ◌∙◌, cond}
use Rattle.std.specs.Borrow.{Bor}
use Rattle.std.specs.Str.{chars}
use Rattle.std.proofs.lemmas.Bool.{eqb-true, eq-eqb}
use Rattle.rf_base_grammar.specs.Reader.{strip}
use Rattle.rf_lexer.specs.Places.{IsStripped}

-- what is behind a character at the front
pub strip_front : (c : ℕ) (rest : List ℕ) (r : Bor (List ℕ)) → IsStripped (strip (c ∷ []) rest) (Some r) → rest ≡ c ∷ chars r.now
strip_front c [] r h = absurd h
strip_front c (d ∷ rest) r h =
    elim (c == d) as (λ b. (c == d) ≡ b → IsStripped (cond b (Some rest) None) (Some r) → d ∷ rest ≡ c ∷ chars r.now) [
      | true ↦ λ same e. cons_same c d rest (chars r.now) (eqb-true c d same) (sym e)
      | false ↦ λ same e. absurd e
    ] refl h
  where
    cons_same : (c d : ℕ) (xs ys : List ℕ) → c ≡ d → xs ≡ ys → d ∷ xs ≡ c ∷ ys
    cons_same c d xs ys e f = ap (λ x. x ∷ xs) (sym e) ∙ ap (λ zs. c ∷ zs) f

-- no such character at the front
pub strip_other : (c : ℕ) (rest next : List ℕ) → IsStripped (strip (c ∷ []) rest) None → rest ≡ c ∷ next → ⊥
strip_other c rest next h e = rw (e, eq-eqb c c refl) at h

-- what a word was stripped to
pub stripped_some : (k : Option (List ℕ)) (r : Bor (List ℕ)) → IsStripped k (Some r) → k ≡ Some (chars r.now)
stripped_some None r h = absurd h
stripped_some (Some text) r h = ap Some (sym h)

pub stripped_none : (k : Option (List ℕ)) → IsStripped k None → k ≡ None
stripped_none None h = refl
stripped_none (Some text) h = absurd h
