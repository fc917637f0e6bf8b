-- Counting gaps.
use Rattle.std.proofs.Common.{◌≡◌, ◌≢◌, ℕ, zero, suc, ◌+◌, ◌*◌, ◌<◌, ◌≤◌, refl, sym, ◌∙◌, ap, subst, Option, None, Some, inl, inr, arith}
use Rattle.std.proofs.lemmas.Bool.{cases_eq}
use Rattle.rf_resolve.specs.Gaps.{sum_below, gap, gaps}

-- sums of the same numbers are the same
same_sum : (f g : ℕ → ℕ) (n : ℕ) → ((j : ℕ) → j < n → f j ≡ g j) → sum_below f n ≡ sum_below g n
unfolding sum_below
same_sum f g zero same = refl
same_sum f g (suc n) same =
    let before : sum_below f n ≡ sum_below g n = same_sum f g n (λ j below. same j (omega (arith, below))) in
    let last : f n ≡ g n = same n (omega arith) in
    omega (arith, before, last)

-- where one number is one less and all others are the same, the sum is one less
one_less : (f g : ℕ → ℕ) (n k : ℕ) → k < n → f k ≡ g k + 1 → ((j : ℕ) → j ≢ k → f j ≡ g j) → sum_below f n ≡ sum_below g n + 1
unfolding sum_below
one_less f g zero k below less same = absurd (omega (arith, below))
one_less f g (suc n) k below less same = elim (cases_eq k n) [
  | inl is ↦
      let before : sum_below f n ≡ sum_below g n = same_sum f g n (λ j under. same j (λ e. omega (arith, under, e, is))) in
      let last : f n ≡ g n + 1 = subst (λ (m : ℕ). f m ≡ g m + 1) is less in
      omega (arith, before, last)
  | inr other ↦
      let under : k < n = omega (arith, below, other) in
      let before : sum_below f n ≡ sum_below g n + 1 = one_less f g n k under less same in
      let last : f n ≡ g n = same n (λ e. other (sym e)) in
      omega (arith, before, last)
]

-- each of n numbers is at most b, so the sum is at most n times b
bounded_sum : (f : ℕ → ℕ) (n b : ℕ) → ((j : ℕ) → f j ≤ b) → sum_below f n ≤ n * b
unfolding sum_below
bounded_sum f zero b each = omega arith
bounded_sum f (suc n) b each = omega (arith, bounded_sum f n b each, each n)

gap_small : {A : Type 0} (o : Option A) → gap o ≤ 1
gap_small None = omega arith
gap_small (Some x) = omega arith

-- there are no more gaps than places
pub gaps_bounded : {A : Type 0} (found : ℕ → ℕ → ℕ → Option A) (nodes w : ℕ) → gaps found nodes w ≤ nodes * ((w + 1) * (w + 2))
unfolding gaps
gaps_bounded found nodes w =
    bounded_sum (λ n. sum_below (λ c. sum_below (λ i. gap (found n c i)) (w + 2)) (w + 1)) nodes ((w + 1) * (w + 2))
    (λ n. bounded_sum (λ c. sum_below (λ i. gap (found n c i)) (w + 2)) (w + 1) (w + 2)
    (λ c. let few : sum_below (λ i. gap (found n c i)) (w + 2) ≤ (w + 2) * 1 = bounded_sum (λ i. gap (found n c i)) (w + 2) 1 (λ i. gap_small (found n c i)) in omega (arith, few)))

-- what is put closes one gap
pub gap_closed : {A : Type 0} (old new : ℕ → ℕ → ℕ → Option A) (nodes w n c i : ℕ) (x : A) → n < nodes → c ≤ w → i ≤ w + 1 →
    old n c i ≡ None → new n c i ≡ Some x →
    ((m b j : ℕ) → ((m ≡ n) × (b ≡ c) × (j ≡ i) → ⊥) → new m b j ≡ old m b j) →
    gaps old nodes w ≡ gaps new nodes w + 1
unfolding gaps
gap_closed old new nodes w n c i x in_nodes in_columns in_depths was is others =
    one_less (λ m. sum_below (λ b. sum_below (λ j. gap (old m b j)) (w + 2)) (w + 1))
    (λ m. sum_below (λ b. sum_below (λ j. gap (new m b j)) (w + 2)) (w + 1)) nodes n in_nodes
    (one_less (λ b. sum_below (λ j. gap (old n b j)) (w + 2)) (λ b. sum_below (λ j. gap (new n b j)) (w + 2)) (w + 1) c (omega (arith, in_columns))
    (one_less (λ j. gap (old n c j)) (λ j. gap (new n c j)) (w + 2) i (omega (arith, in_depths))
    (ap gap was ∙ ap (λ (k : ℕ). k + 1) (sym (ap gap is)))
    (λ j apart. ap gap (sym (others n c j (λ same. apart same.2)))))
    (λ b apart. same_sum (λ j. gap (old n b j)) (λ j. gap (new n b j)) (w + 2) (λ j below. ap gap (sym (others n b j (λ same. apart same.1))))))
    (λ m apart. same_sum (λ b. sum_below (λ j. gap (old m b j)) (w + 2)) (λ b. sum_below (λ j. gap (new m b j)) (w + 2)) (w + 1)
    (λ b below. same_sum (λ j. gap (old m b j)) (λ j. gap (new m b j)) (w + 2) (λ j under. ap gap (sym (others m b j (λ same. apart same.0))))))

-- a sum is no less than one of its numbers
one_of : (f : ℕ → ℕ) (n k : ℕ) → k < n → f k ≤ sum_below f n
unfolding sum_below
one_of f zero k below = absurd (omega (arith, below))
one_of f (suc n) k below = elim (cases_eq k n) [
  | inl is ↦ let same : f k ≡ f n = ap f is in omega (arith, same)
  | inr other ↦ let under : k < n = omega (arith, below, other) in let rest : f k ≤ sum_below f n = one_of f n k under in omega (arith, rest)
]

-- where there is nothing there is a gap
pub gap_open : {A : Type 0} (found : ℕ → ℕ → ℕ → Option A) (nodes w n c i : ℕ) → n < nodes → c ≤ w → i ≤ w + 1 → found n c i ≡ None → 0 < gaps found nodes w
unfolding gaps
gap_open found nodes w n c i in_nodes in_columns in_depths none =
    let here : gap (found n c i) ≡ 1 = ap gap none in
    let first : gap (found n c i) ≤ sum_below (λ j. gap (found n c j)) (w + 2) = one_of (λ j. gap (found n c j)) (w + 2) i (omega (arith, in_depths)) in
    let second : sum_below (λ j. gap (found n c j)) (w + 2) ≤ sum_below (λ b. sum_below (λ j. gap (found n b j)) (w + 2)) (w + 1) =
    one_of (λ b. sum_below (λ j. gap (found n b j)) (w + 2)) (w + 1) c (omega (arith, in_columns)) in
    let third : sum_below (λ b. sum_below (λ j. gap (found n b j)) (w + 2)) (w + 1) ≤ sum_below (λ m. sum_below (λ b. sum_below (λ j. gap (found m b j)) (w + 2)) (w + 1)) nodes =
    one_of (λ m. sum_below (λ b. sum_below (λ j. gap (found m b j)) (w + 2)) (w + 1)) nodes n in_nodes in
    omega (arith, here, first, second, third)
