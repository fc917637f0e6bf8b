-- Worked examples of counts of faults, of told bytes and of files: a definition that changes its meaning fails here.
use Rattle.std.proofs.Common.{◌≡◌, ℕ, zero, suc, ◌≤◌, inl, inr, List, [], ◌∷◌, take, Some, None, refl, arith}
use Rattle.std.specs.Prelude.{Ok, Err}
use Rattle.rf_edges.specs.Faults.{Rose, Lasts, next_count}
use Rattle.rf_edges.specs.Bytes.{EndsExactly, Takes, TakesAtMost, AppendsPrefix}
use Rattle.rf_edges.specs.Files.{Untold, Absent, Bytes, IsWhole, IsFront, file_of}

-- a count that is greater rose, and one that stands at the greatest u64 did; one that stands elsewhere didn't
rose_by_one : Rose 4 5 × Rose 18446744073709551615 18446744073709551615
rose_by_one = (inl (omega arith), inr refl)

stands : Rose 5 5 → ⊥
stands (inl more) = omega (arith, more)
stands (inr top) = omega (arith, top)

fell : Rose 5 4 → ⊥
fell (inl more) = omega (arith, more)
fell (inr top) = omega (arith, top)

below_the_greatest : Rose 18446744073709551614 18446744073709551614 → ⊥
below_the_greatest (inl more) = omega (arith, more)
below_the_greatest (inr top) = omega (arith, top)

-- a count that lasts may stand or rise, up to the greatest u64
lasts : Lasts 5 5 × Lasts 5 18446744073709551615
lasts = ((omega arith, λ h. omega arith), (omega arith, λ h. omega arith))

fallen_does_not_last : Lasts 5 4 → ⊥
fallen_does_not_last h = omega (arith, h.0)

overflown_does_not_last : Lasts 5 18446744073709551616 → ⊥
overflown_does_not_last h = let e : 18446744073709551616 ≤ 18446744073709551615 = h.1 (omega arith) in omega (arith, e)

counts_are : (next_count 4 ≡ 5) × (next_count 18446744073709551614 ≡ 18446744073709551615)
    × (next_count 18446744073709551615 ≡ 18446744073709551615)
counts_are = (refl, refl, refl)

-- a read that gives nothing is at the end, and one that gives something isn't, unless its buffer is empty
end_gives_none : EndsExactly {E = ℕ} (Some []) (Ok 0) (7 ∷ []) × (EndsExactly {E = ℕ} (Some []) (Ok 1) (7 ∷ []) → ⊥)
end_gives_none = (λ room. (λ e. refl, λ e. refl), λ h. (let e : 1 ≡ 0 = (h (omega arith)).1 refl in omega (arith, e)))

more_gives_some : EndsExactly {E = ℕ} (Some (1 ∷ [])) (Ok 1) (7 ∷ [])
    × (EndsExactly {E = ℕ} (Some (1 ∷ [])) (Ok 0) (7 ∷ []) → ⊥) × EndsExactly {E = ℕ} (Some (1 ∷ [])) (Ok 0) []
more_gives_some = (
  λ room. (λ e. absurd (omega (arith, e)), λ e. cc),
  λ h. (let e : 1 ∷ [] ≡ [] = (h (omega arith)).0 refl in cc),
  λ room. absurd (omega (arith, room)),
)

untold_or_failed : EndsExactly {E = ℕ} None (Ok 0) (7 ∷ []) × EndsExactly {E = ℕ} (Some (1 ∷ [])) (Err 5) (7 ∷ [])
untold_or_failed = (tt, tt)

-- what was taken is the front, and no more than is there
two_taken : Takes (Some (1 ∷ 2 ∷ 3 ∷ [])) (Some (3 ∷ [])) 2 × Takes (Some (1 ∷ [])) (Some []) 1 × Takes None (Some []) 2
two_taken = ((omega arith, refl), (omega arith, refl), tt)

more_than_there : Takes (Some (1 ∷ [])) (Some []) 2 → ⊥
more_than_there h = omega (arith, h.0)

another_left : (Takes (Some (1 ∷ 2 ∷ 3 ∷ [])) (Some (1 ∷ [])) 2 → ⊥) × (Takes (Some (1 ∷ [])) None 1 → ⊥)
another_left = (λ h. (let e = h.1 in cc), λ h. (let e = h.1 in cc))

at_most_two : TakesAtMost (Some (1 ∷ 2 ∷ 3 ∷ [])) (Some (3 ∷ [])) 2 × TakesAtMost (Some (1 ∷ [])) (Some (1 ∷ [])) 2
at_most_two = ((2, omega arith, (omega arith, refl)), (0, omega arith, (omega arith, refl)))

three_of_two : (k : ℕ) → k ≤ 2 → Takes (Some (1 ∷ 2 ∷ 3 ∷ [])) (Some []) k → ⊥
three_of_two (suc (suc (suc k))) p h = omega (arith, p)
three_of_two _ p h = let e = h.1 in cc

not_all_three : TakesAtMost (Some (1 ∷ 2 ∷ 3 ∷ [])) (Some []) 2 → ⊥
not_all_three h = three_of_two h.0 h.1 h.2

-- the prefix may be nothing or the whole, and stands behind the other bytes
prefixes : AppendsPrefix (Some (9 ∷ [])) (Some (9 ∷ 1 ∷ [])) (1 ∷ 2 ∷ [])
    × AppendsPrefix (Some (9 ∷ [])) (Some (9 ∷ [])) (1 ∷ 2 ∷ [])
    × AppendsPrefix (Some (9 ∷ [])) (Some (9 ∷ 1 ∷ 2 ∷ [])) (1 ∷ 2 ∷ [])
prefixes = ((1, omega arith, refl), (0, omega arith, refl), (2, omega arith, refl))

abbrev nine_and_two : List ℕ
nine_and_two = 9 ∷ 2 ∷ []

no_prefix_is : (k : ℕ) → k ≤ 2 → nine_and_two ≡ 9 ∷ take k (1 ∷ 2 ∷ []) → ⊥
no_prefix_is zero p e = cc
no_prefix_is (suc k) p e = cc

no_prefix : AppendsPrefix (Some (9 ∷ [])) (Some nine_and_two) (1 ∷ 2 ∷ []) → ⊥
no_prefix h = no_prefix_is h.0 h.1 h.2

-- all bytes of a file, or a front of them; a file that isn't there has none
whole_is : (bytes : List ℕ) → IsWhole (Bytes (1 ∷ 2 ∷ [])) bytes → bytes ≡ 1 ∷ 2 ∷ []
whole_is bytes h = h

absent_has_none : (bytes : List ℕ) → (IsWhole Absent bytes → ⊥) × (IsFront Absent bytes → bytes ≡ [])
absent_has_none bytes = (λ h. h, λ h. h)

fronts : IsFront (Bytes (1 ∷ 2 ∷ [])) (1 ∷ []) × IsFront (Bytes (1 ∷ 2 ∷ [])) (1 ∷ 2 ∷ []) × IsFront Absent []
    × (IsFront (Bytes (1 ∷ 2 ∷ [])) (2 ∷ []) → ⊥) × (IsFront (Bytes (1 ∷ [])) (1 ∷ 1 ∷ []) → ⊥)
fronts = (refl, refl, refl, λ h. cc, λ h. cc)

untold_is_any : IsWhole Untold (1 ∷ []) × IsFront Untold (1 ∷ [])
untold_is_any = (tt, tt)

-- of files with one name the first counts
files_are : (file_of ((97 ∷ [], 1 ∷ []) ∷ (98 ∷ [], 2 ∷ []) ∷ (97 ∷ [], 3 ∷ []) ∷ []) (97 ∷ []) ≡ Bytes (1 ∷ []))
    × (file_of ((97 ∷ [], 1 ∷ []) ∷ (98 ∷ [], 2 ∷ []) ∷ []) (98 ∷ []) ≡ Bytes (2 ∷ []))
    × (file_of ((97 ∷ [], 1 ∷ []) ∷ []) (99 ∷ []) ≡ Absent)
files_are = (refl, refl, refl)
