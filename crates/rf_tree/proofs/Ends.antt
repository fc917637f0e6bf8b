-- Lists told by what they end with.
use Rattle.std.proofs.Common.{◌≡◌, ℕ, suc, ◌-◌, List, [], ◌∷◌, ◌++◌, length, Some, slice_get, ap, subst, arith}

-- what stands at the last place is what the list ends with
pub last_splits : {A : Type 0} (xs : List A) (x : A) → slice_get xs (length xs - 1) ≡ Some x → (outer : List A) × (xs ≡ outer ++ x ∷ [])
last_splits [] x h = cc
last_splits (y ∷ []) x h = ([], cc)
last_splits (y ∷ z ∷ xs) x h =
    let same : length (y ∷ z ∷ xs) - 1 ≡ suc (length (z ∷ xs) - 1) = omega arith in
    let there : slice_get (z ∷ xs) (length (z ∷ xs) - 1) ≡ Some x = subst (λ (k : ℕ). slice_get (y ∷ z ∷ xs) k ≡ Some x) same h in
    let rest = last_splits (z ∷ xs) x there in
    (y ∷ rest.0, ap (λ (ys : List _). y ∷ ys) rest.1)
