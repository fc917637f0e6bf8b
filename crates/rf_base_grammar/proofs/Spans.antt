-- The longest front of a text whose characters pass a test.
use Rattle.std.proofs.Common.{◌≡◌, ℕ, ◌+◌, Bool, true, false, cond, List, [], ◌∷◌, ◌++◌, take, drop, refl, sym, ap, ◌∙◌}
use Rattle.std.proofs.Math.Numerals.{one-add}
use Rattle.std.proofs.lemmas.List.{append-nil}
use Rattle.std.specs.List.{prefix_len}
use Rattle.rf_base_grammar.specs.Characters.{Each}
use Rattle.rf_base_grammar.specs.Cuts.{Cut, cut, span}

-- the text is at its end or goes on with what fails the test
abbrev pub Stops : (ℕ → Bool) → List ℕ → Type 0
Stops p [] = Unit {0}
Stops p (c ∷ text) = p c ≡ false

pub span_parts : (p : ℕ → Bool) (text : List ℕ) →
    (text ≡ (span p text).front ++ (span p text).behind) × Each p (span p text).front × Stops p (span p text).behind
span_parts p [] = (refl, tt, tt)
span_parts p (c ∷ text) =
    elim (p c) as (λ b. p c ≡ b →
    let n = cond b (1 + prefix_len p text) 0 in
    (c ∷ text ≡ take n (c ∷ text) ++ drop n (c ∷ text)) × Each p (take n (c ∷ text)) × Stops p (drop n (c ∷ text))) [
      | true ↦ λ e. let r = span_parts p text in rw one-add (ap (λ xs. c ∷ xs) r.0, (e, r.1), r.2)
      | false ↦ λ e. (refl, tt, e)
    ] refl

pub span_same : (p : ℕ → Bool) (front behind : List ℕ) → Each p front → Stops p behind →
    span p (front ++ behind) ≡ cut front behind
span_same p [] [] h s = refl
span_same p [] (c ∷ behind) h s = rw s refl
span_same p (c ∷ front) behind h s =
    rw (h.0, one-add) (ap (λ (k : Cut). cut (c ∷ k.front) k.behind) (span_same p front behind h.1 s))

pub Each-append : (p : ℕ → Bool) (xs ys : List ℕ) → Each p xs → Each p ys → Each p (xs ++ ys)
Each-append p [] ys h k = k
Each-append p (x ∷ xs) ys h k = (h.0, Each-append p xs ys h.1 k)

pub Each-front : (p : ℕ → Bool) (xs ys : List ℕ) → Each p (xs ++ ys) → Each p xs
Each-front p [] ys h = tt
Each-front p (x ∷ xs) ys h = (h.0, Each-front p xs ys h.1)

pub Each-back : (p : ℕ → Bool) (xs ys : List ℕ) → Each p (xs ++ ys) → Each p ys
Each-back p [] ys h = h
Each-back p (x ∷ xs) ys h = Each-back p xs ys h.1

pub span_all : (p : ℕ → Bool) (text : List ℕ) → Each p text → span p text ≡ cut text []
span_all p text h = ap (λ xs. span p xs) (sym (append-nil text)) ∙ span_same p text [] h tt
