-- The additions of the three factories reflect the order of costs that don't reach the greatest.
use Rattle.std.proofs.Common.{◌≡◌, ℕ, ◌+◌, ◌-◌, ◌^◌, ◌<◌, ◌≤◌, min, List, [], ◌∷◌, ◌++◌, length, length-append, sym, ◌∙◌, subst, Some, arith}
use Rattle.rf_base_document.specs.Render.{Piece}
use Rattle.rf_base_cost.specs.Cost.{cost_of, PiecesAreCounted}
use Rattle.rf_base_cost.specs.Reflecting.{ReflectsOrderUpTo}
use Rattle.rf_cost.specs.Factories.{numbers, plain_sum, SumsPlainly}
use Rattle.rf_cost.specs.Numbers.{le-true, true-le}

sum-append : (text : ℕ → ℕ → ℕ) (newline : ℕ → ℕ) (ps qs : List Piece) →
    plain_sum (numbers text newline) (ps ++ qs)
    ≡ plain_sum (numbers text newline) ps + plain_sum (numbers text newline) qs
unfolding plain_sum
sum-append text newline [] qs = omega arith
sum-append text newline (p ∷ ps) qs = let rest = sum-append text newline ps qs in omega (arith, rest)

counted-append : (ps qs : List Piece) → PiecesAreCounted ps → PiecesAreCounted qs → PiecesAreCounted (ps ++ qs)
unfolding PiecesAreCounted
counted-append [] qs h k = k
counted-append (p ∷ ps) qs h k = (h.0, counted-append ps qs h.1 k)

-- what pieces cost is their plain sum, also in front of others
cost_is : (text : ℕ → ℕ → ℕ) (newline : ℕ → ℕ) → SumsPlainly (numbers text newline) → (ps : List Piece) (a : ℕ) →
    PiecesAreCounted ps → length ps ≤ 2 ^ 32 →
    cost_of (numbers text newline) ps ≡ Some a → a ≡ plain_sum (numbers text newline) ps
cost_is text newline sums [] a h short e = cc
cost_is text newline sums (p ∷ ps) a h short e =
    let is = (sums p ps h short).0 in some_same a (plain_sum (numbers text newline) (p ∷ ps)) (sym e ∙ is)
  where
    some_same : (a b : ℕ) → Some a ≡ Some b → a ≡ b
    some_same a b e = cc

both_small : (text : ℕ → ℕ → ℕ) (newline : ℕ → ℕ) → SumsPlainly (numbers text newline) → (ps qs : List Piece) (a : ℕ) →
    PiecesAreCounted ps → PiecesAreCounted qs →
    length ps + length qs ≤ 2 ^ 32 → cost_of (numbers text newline) ps ≡ Some a →
    plain_sum (numbers text newline) ps + plain_sum (numbers text newline) qs < 2 ^ 128
both_small text newline sums [] qs a h k short e = cc
both_small text newline sums (p ∷ ps) qs a h k short e =
    let count = length-append ps qs in
    let all : PiecesAreCounted (p ∷ (ps ++ qs)) = counted-append (p ∷ ps) qs h k in
    let small : plain_sum (numbers text newline) (p ∷ (ps ++ qs)) < 2 ^ 128 =
    (sums p (ps ++ qs) all (omega (arith, count))).1 in
    subst (λ (n : ℕ). n < 2 ^ 128) (sum-append text newline (p ∷ ps) qs) small

reflects_below : (a b c : ℕ) → a + b < 2 ^ 128 → a + c < 2 ^ 128 →
    min (a + b) (2 ^ 128 - 1) ≤ min (a + c) (2 ^ 128 - 1) → b ≤ c
reflects_below a b c p q h = omega arith

pub reflects : (text : ℕ → ℕ → ℕ) (newline : ℕ → ℕ) → SumsPlainly (numbers text newline) →
    ReflectsOrderUpTo (numbers text newline) (2 ^ 32)
reflects text newline sums pieces others more a b c p q r short shorter e f g less =
    let first = cost_is text newline sums pieces a p (omega arith) e in
    let second = cost_is text newline sums others b q (omega arith) f in
    let third = cost_is text newline sums more c r (omega arith) g in
    let one = both_small text newline sums pieces others a p q short e in
    let two = both_small text newline sums pieces more a p r shorter e in
    let one_sum : a + b < 2 ^ 128 = omega (arith, first, second, one) in
    let two_sum : a + c < 2 ^ 128 = omega (arith, first, third, two) in
    true-le b c (reflects_below a b c one_sum two_sum
    (le-true (min (a + b) (2 ^ 128 - 1)) (min (a + c) (2 ^ 128 - 1)) less))
