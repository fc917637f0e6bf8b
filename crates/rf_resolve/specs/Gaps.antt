-- How many frontiers are still to be found: the places at which nothing was put.
use Rattle.std.specs.Prelude.{ℕ, zero, suc, ◌+◌, ◌*◌, ◌≤◌, Option, None, Some}

-- the sum of f over the numbers below n
unfoldable pub sum_below : (ℕ → ℕ) → ℕ → ℕ
sum_below f zero = 0
sum_below f (suc n) = sum_below f n + f n

-- 1 where there is nothing
abbrev pub gap : {A : Type 0} → Option A → ℕ
gap None = 1
gap (Some x) = 0

-- the number of nodes, columns up to w and indentations up to w + 1 at which nothing is found
unfoldable pub gaps : {A : Type 0} → (ℕ → ℕ → ℕ → Option A) → ℕ → ℕ → ℕ
gaps found nodes w =
    sum_below
    (λ n. sum_below (λ column. sum_below (λ indentation. gap (found n column indentation)) (w + 2)) (w + 1)) nodes

-- the most comparisons of costs that one frontier takes: for each of at most w + 1 measures six for each of as many
abbrev pub frontier_steps : ℕ → ℕ
frontier_steps w = 6 * ((w + 1) * (w + 1))

-- the steps that were made were made for gaps that are closed
pub record PaidByGaps (w : ℕ) (gaps_before gaps_after steps_before steps_after : ℕ) : Type 0 where
  pub risen : steps_before ≤ steps_after
  pub paid : steps_after + frontier_steps w * gaps_after ≤ steps_before + frontier_steps w * gaps_before
