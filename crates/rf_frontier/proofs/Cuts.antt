-- Where a list of measures is cut, found from its beginning.
use Rattle.std.proofs.Common.{◌≡◌, ℕ, zero, suc, ◌+◌, subst, Bool, true, false, cond, List, [], ◌∷◌, ◌++◌, length, take, drop, Some, ◌<◌, ◌≤◌, arith, append-nil, sym, ◌∙◌, ap, append_assoc, refl}
use Rattle.std.specs.Prelude.{nat_le, slice_get}
use Rattle.rf_base_cost.specs.declared.measures.Measure.{Measure}
use Rattle.rf_base_cost.specs.Cost.{Costs}
use Rattle.rf_base_cost.specs.Pareto.{IsFrontier, EachFollows}
use Rattle.rf_base_cost.proofs.Dominance.{true_le, false_le}
use Rattle.rf_base_cut.specs.Cut.{cut}

-- the element of this number is the first of those from there on, and the last of those up to it
drop_at : {A : Type 0} (n : ℕ) (xs : List A) (x : A) → slice_get xs n ≡ Some x → drop n xs ≡ x ∷ drop (suc n) xs
drop_at n [] x e = cc
drop_at zero (y ∷ ys) x e = cc
drop_at (suc n) (y ∷ ys) x e = drop_at n ys x e

pub take_at : {A : Type 0} (n : ℕ) (xs : List A) (x : A) → slice_get xs n ≡ Some x → take (suc n) xs ≡ take n xs ++ x ∷ []
take_at n [] x e = cc
take_at zero (y ∷ ys) x e = cc
take_at {A = A} (suc n) (y ∷ ys) x e = ap (λ (z : List A). y ∷ z) (take_at n ys x e)

cut_one : {C H : Type 0} (x : ℕ) (m : Measure C H) (rest : List (Measure C H)) (b : Bool) → nat_le m.last x ≡ b → cut x (m ∷ rest) ≡ m ∷ cond b [] (cut x rest)
unfolding cut
cut_one x m rest b e = ap (λ (c : Bool). m ∷ cond c [] (cut x rest)) e

-- behind a first measure that ends by x nothing stays
pub cut_first : {C H : Type 0} (x : ℕ) (m : Measure C H) (rest : List (Measure C H)) → m.last ≤ x → cut x (m ∷ rest) ≡ m ∷ []
cut_first x m rest ends = cut_one x m rest true (true_le m.last x ends)

-- the list is cut behind this measure
cut_here : {C H : Type 0} (x n : ℕ) (xs : List (Measure C H)) (m : Measure C H) → slice_get xs n ≡ Some m → m.last ≤ x →
    cut x xs ≡ take n xs ++ cut x (drop n xs) → take (suc n) xs ≡ cut x xs
cut_here {C = C} {H = H} x n xs m e ends so_far =
    take_at n xs m e
    ∙ sym (so_far ∙ ap (λ (z : List (Measure C H)). take n xs ++ z) (ap (λ (z : List (Measure C H)). cut x z) (drop_at n xs m e) ∙ cut_one x m (drop (suc n) xs) true (true_le m.last x ends)))

-- or behind it
cut_behind : {C H : Type 0} (x n : ℕ) (xs : List (Measure C H)) (m : Measure C H) → slice_get xs n ≡ Some m → x < m.last →
    cut x xs ≡ take n xs ++ cut x (drop n xs) → cut x xs ≡ take (suc n) xs ++ cut x (drop (suc n) xs)
cut_behind {C = C} {H = H} x n xs m e ends so_far =
    so_far
    ∙ (ap (λ (z : List (Measure C H)). take n xs ++ z) (ap (λ (z : List (Measure C H)). cut x z) (drop_at n xs m e) ∙ cut_one x m (drop (suc n) xs) false (false_le m.last x ends))
    ∙ (sym (append_assoc (take n xs) (m ∷ []) (cut x (drop (suc n) xs)))
    ∙ ap (λ (z : List (Measure C H)). z ++ cut x (drop (suc n) xs)) (sym (take_at n xs m e))))

-- nothing is behind the end
pub cut_none : {C H : Type 0} (x : ℕ) (xs : List (Measure C H)) → xs ≡ [] → cut x xs ≡ []
unfolding cut
cut_none x [] e = refl
cut_none x (m ∷ xs) e = cc

-- what is alone stays
cut_alone : {C H : Type 0} (x : ℕ) (m : Measure C H) (b : Bool) → nat_le m.last x ≡ b → cut x (m ∷ []) ≡ m ∷ []
cut_alone {C = C} {H = H} x m true e = cut_one x m [] true e
cut_alone {C = C} {H = H} x m false e = cut_one x m [] false e ∙ ap (λ (z : List (Measure C H)). m ∷ z) (cut_none x [] refl)

pub cut_single : {C H : Type 0} (x : ℕ) (m : Measure C H) → cut x (m ∷ []) ≡ m ∷ []
cut_single x m = cut_alone x m (nat_le m.last x) refl

-- of two measures both stay where the first doesn't end by x
pub cut_two : {C H : Type 0} (x : ℕ) (m k : Measure C H) (list : List (Measure C H)) → list ≡ m ∷ k ∷ [] → x < m.last → length (cut x list) ≡ 2
cut_two {C = C} {H = H} x m k list e ends =
    ap (λ (z : List (Measure C H)). length (cut x z)) e
    ∙ ap (λ (z : List (Measure C H)). length z) (cut_one x m (k ∷ []) false (false_le m.last x ends))
    ∙ ap (λ (z : List (Measure C H)). length (m ∷ z)) (cut_single x k)

pub cut_end : {C H : Type 0} (x n : ℕ) (xs : List (Measure C H)) → length xs ≤ n → cut x xs ≡ take n xs ++ cut x (drop n xs) → take n xs ≡ cut x xs
cut_end {C = C} {H = H} x n xs false_le so_far =
    sym (so_far ∙ (ap (λ (z : List (Measure C H)). take n xs ++ z) (cut_none x (drop n xs) (drop_all n xs false_le)) ∙ append-nil (take n xs)))
  where
    drop_all : {A : Type 0} (n : ℕ) (xs : List A) → length xs ≤ n → drop n xs ≡ []
    drop_all zero [] p = refl
    drop_all (suc n) [] p = refl
    drop_all zero (y ∷ ys) p = absurd (omega arith)
    drop_all (suc n) (y ∷ ys) p = drop_all n ys (omega arith)

-- the same, with one more than the number
pub cut_here_next : {C H : Type 0} (x n k : ℕ) (xs : List (Measure C H)) (m : Measure C H) → k ≡ n + 1 → slice_get xs n ≡ Some m → m.last ≤ x →
    cut x xs ≡ take n xs ++ cut x (drop n xs) → take k xs ≡ cut x xs
cut_here_next x n k xs m same e ends so_far =
    let next : suc n ≡ k = omega (arith, same) in subst (λ (i : ℕ). take i xs ≡ cut x xs) next (cut_here x n xs m e ends so_far)

pub cut_behind_next : {C H : Type 0} (x n k : ℕ) (xs : List (Measure C H)) (m : Measure C H) → k ≡ n + 1 → slice_get xs n ≡ Some m → x < m.last →
    cut x xs ≡ take n xs ++ cut x (drop n xs) → cut x xs ≡ take k xs ++ cut x (drop k xs)
cut_behind_next x n k xs m same e ends so_far =
    let next : suc n ≡ k = omega (arith, same) in subst (λ (i : ℕ). cut x xs ≡ take i xs ++ cut x (drop i xs)) next (cut_behind x n xs m e ends so_far)

-- from the end: what stands behind a measure that ends by x is cut off
cut_shorter : {C H : Type 0} (x n : ℕ) (xs : List (Measure C H)) (m : Measure C H) → slice_get xs n ≡ Some m → m.last ≤ x →
    cut x (take (suc n) xs) ≡ cut x (take (suc (suc n)) xs)
unfolding cut
cut_shorter x n [] m e ends = cc
cut_shorter x zero (y ∷ ys) m e ends =
    let own : y.last ≤ x = subst (λ (z : Measure _ _). z.last ≤ x) (sym (same y m e)) ends in
    cut_first x y [] own ∙ sym (cut_first x y (take 1 ys) own)
  where
    same : {A : Type 0} (y m : A) → Some y ≡ Some m → y ≡ m
    same y m e = cc
cut_shorter x (suc n) (y ∷ ys) m e ends =
    ap (λ z. y ∷ cond (nat_le y.last x) [] z) (cut_shorter x n ys m e ends)

-- each measure behind m in a frontier ends further left
follows_at : {C H : Type 0} (costs : Costs C) (m : Measure C H) (xs : List (Measure C H)) (n : ℕ) (k : Measure C H) → EachFollows costs m xs →
    slice_get xs n ≡ Some k → k.last < m.last
unfolding EachFollows
follows_at costs m [] n k each e = cc
follows_at costs m (y ∷ ys) zero k each e = subst (λ z. z.last < m.last) (same y k e) each.0
  where
    same : {A : Type 0} (y m : A) → Some y ≡ Some m → y ≡ m
    same y m e = cc
follows_at costs m (y ∷ ys) (suc n) k each e = follows_at costs m ys n k each.2 e

-- of a frontier nothing is cut off where only the last measure may end by x
cut_whole : {C H : Type 0} (costs : Costs C) (x n : ℕ) (xs : List (Measure C H)) (m : Measure C H) → IsFrontier costs xs → slice_get xs n ≡ Some m →
    x < m.last → cut x (take (suc (suc n)) xs) ≡ take (suc (suc n)) xs
unfolding IsFrontier
cut_whole costs x n [] m falls e ends = cc
cut_whole costs x zero (y ∷ []) m falls e ends = cut_single x y
cut_whole {C = C} {H = H} costs x zero (y ∷ z ∷ zs) m falls e ends =
    cut_one x y (z ∷ []) false (false_le y.last x (subst (λ (k : Measure C H). x < k.last) (sym (same y m e)) ends))
    ∙ ap (λ (ks : List (Measure C H)). y ∷ ks) (cut_single x z)
  where
    same : {A : Type 0} (y m : A) → Some y ≡ Some m → y ≡ m
    same y m e = cc
cut_whole {C = C} {H = H} costs x (suc n) (y ∷ ys) m falls e ends =
    let left : m.last < y.last = follows_at costs y ys n m falls.0 e in
    cut_one x y (take (suc (suc n)) ys) false (false_le y.last x (omega (arith, left, ends)))
    ∙ ap (λ (ks : List (Measure C H)). y ∷ ks) (cut_whole costs x n ys m falls.1 e ends)

-- the same with the numbers as they are counted from the end
pub cut_from_end : {C H : Type 0} (x n k j : ℕ) (xs : List (Measure C H)) (m : Measure C H) → k ≡ n + 2 → j ≡ n + 1 → slice_get xs n ≡ Some m →
    m.last ≤ x → cut x (take k xs) ≡ cut x xs → cut x (take j xs) ≡ cut x xs
cut_from_end x n k j xs m two one e ends so_far =
    let k_is : suc (suc n) ≡ k = omega (arith, two) in
    let j_is : suc n ≡ j = omega (arith, one) in
    subst (λ (i : ℕ). cut x (take i xs) ≡ cut x xs) j_is
    (cut_shorter x n xs m e ends ∙ subst (λ (i : ℕ). cut x (take i xs) ≡ cut x xs) (sym k_is) so_far)

pub whole_from_end : {C H : Type 0} (costs : Costs C) (x n k : ℕ) (xs : List (Measure C H)) (m : Measure C H) → k ≡ n + 2 → IsFrontier costs xs →
    slice_get xs n ≡ Some m → x < m.last → cut x (take k xs) ≡ cut x xs → take k xs ≡ cut x xs
whole_from_end costs x n k xs m two falls e ends so_far =
    let k_is : suc (suc n) ≡ k = omega (arith, two) in
    subst (λ (i : ℕ). take i xs ≡ cut x xs) k_is
    (sym (cut_whole costs x n xs m falls e ends) ∙ subst (λ (i : ℕ). cut x (take i xs) ≡ cut x xs) (sym k_is) so_far)

-- of at most one measure nothing is cut off
pub few_from_end : {C H : Type 0} (x k : ℕ) (xs : List (Measure C H)) → k < 2 → cut x (take k xs) ≡ cut x xs → take k xs ≡ cut x xs
few_from_end x zero xs few so_far = sym (cut_none x [] refl) ∙ so_far
few_from_end x (suc zero) [] few so_far = sym (cut_none x [] refl) ∙ so_far
few_from_end x (suc zero) (y ∷ ys) few so_far = sym (cut_single x y) ∙ so_far
few_from_end x (suc (suc k)) xs few so_far = absurd (omega (arith, few))
