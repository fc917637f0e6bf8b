-- Worked examples of pages and of a memo: a definition that changes its meaning fails here.
use Rattle.std.proofs.Common.{◌≡◌, ℕ, ◌<◌, true, false, List, [], ◌∷◌, refl, Some, None, arith}
use Rattle.rf_memo.specs.declared.page.Entry.{Entry}
use Rattle.rf_memo.specs.Page.{value_at, Puts, precedes, EachBefore, EachBehind, IsOrdered, first_value, StartsFrom}
use Rattle.rf_memo.specs.Memo.{entries_at, entries_by_node, OwnsPage, IsOwned, found, PutsAt, SameFound}

-- the value at a column and an indentation
abbrev at : ℕ → ℕ → ℕ → Entry ℕ
at col indent value = record { col = col; indent = indent; value = value }

-- the first entry at the place counts, and the column and the indentation are told apart
abbrev page : List (Entry ℕ)
page = at 7 2 10 ∷ at 7 2 11 ∷ at 2 7 12 ∷ []

values_are : (value_at page 7 2 ≡ Some 10) × (value_at page 2 7 ≡ Some 12) × (value_at page 7 3 ≡ None)
    × (value_at page 6 2 ≡ None)
unfolding value_at
values_are = (refl, refl, refl, refl)

-- a page that is put to has the new value at the place, and no other than before elsewhere
put_at_the_place : (Puts [] (at 7 2 10 ∷ []) 7 2 11 → ⊥) × (Puts {V = ℕ} [] [] 7 2 11 → ⊥)
unfolding value_at
put_at_the_place = (
  λ puts. (let e : Some 10 ≡ Some 11 = puts 7 2 in cc),
  λ puts. (let e : None ≡ Some 11 = puts 7 2 in cc),
)

put_nowhere_else : (Puts page (at 3 4 13 ∷ []) 3 4 13 → ⊥) × (Puts [] (at 7 2 11 ∷ at 7 3 11 ∷ []) 7 2 11 → ⊥)
    × (Puts [] (at 7 2 11 ∷ at 6 2 11 ∷ []) 7 2 11 → ⊥)
unfolding value_at
put_nowhere_else = (
  λ puts. (let e : None ≡ Some 10 = puts 7 2 in cc),
  λ puts. (let e : Some 11 ≡ None = puts 7 3 in cc),
  λ puts. (let e : Some 11 ≡ None = puts 6 2 in cc),
)

-- the greater column comes first, and at one column the less indentation
places_precede : (precedes 7 2 6 1 ≡ true) × (precedes 6 1 7 2 ≡ false) × (precedes 7 2 7 3 ≡ true)
    × (precedes 7 3 7 2 ≡ false) × (precedes 7 2 7 2 ≡ false)
places_precede = (refl, refl, refl, refl, refl)

-- entries before and behind a place, and in order
before_and_behind : EachBefore 6 0 (at 7 2 0 ∷ at 7 1 0 ∷ []) × EachBehind 8 0 (at 7 2 0 ∷ at 7 1 0 ∷ [])
unfolding EachBefore EachBehind
before_and_behind = ((refl, (refl, tt)), (refl, (refl, tt)))

not_all_before : (EachBefore 7 2 (at 7 1 0 ∷ at 7 2 0 ∷ []) → ⊥) × (EachBehind 7 1 (at 7 2 0 ∷ at 7 1 0 ∷ []) → ⊥)
unfolding EachBefore EachBehind
not_all_before = (λ h. (let e = h.1.0 in cc), λ h. (let e = h.1.0 in cc))

in_order : IsOrdered (at 7 1 0 ∷ at 7 2 0 ∷ at 6 0 0 ∷ [])
unfolding IsOrdered EachBehind
in_order = ((refl, (refl, tt)), ((refl, tt), (tt, tt)))

out_of_order : (IsOrdered (at 7 1 0 ∷ at 7 1 1 ∷ []) → ⊥) × (IsOrdered (at 7 1 0 ∷ at 5 0 0 ∷ at 6 0 0 ∷ []) → ⊥)
unfolding IsOrdered EachBehind
out_of_order = (λ h. (let e = h.0.0 in cc), λ h. (let e = h.1.0.0 in cc))

first_is : (first_value page ≡ Some 10) × (first_value {V = ℕ} [] ≡ None)
first_is = (refl, refl)

starts_at_the_place : StartsFrom 7 2 page × (StartsFrom 6 2 page → ⊥)
starts_at_the_place = (refl, λ h. cc)

-- pages of nodes 0 and 2, of which the first place, 0, is none
abbrev pages : List (ℕ × List (Entry ℕ))
pages = (2, page) ∷ (0, at 1 1 5 ∷ []) ∷ []

entries_are : entries_by_node (2 ∷ 0 ∷ 1 ∷ []) pages ≡ (at 1 1 5 ∷ []) ∷ [] ∷ page ∷ []
unfolding entries_by_node
entries_are = refl

found_are : (found (entries_by_node (2 ∷ 0 ∷ 1 ∷ []) pages) 2 7 2 ≡ Some 10)
    × (found (entries_by_node (2 ∷ 0 ∷ 1 ∷ []) pages) 2 2 7 ≡ Some 12)
    × (found (entries_by_node (2 ∷ 0 ∷ 1 ∷ []) pages) 1 7 2 ≡ None)
    × (found (entries_by_node (2 ∷ 0 ∷ 1 ∷ []) pages) 3 7 2 ≡ None)
unfolding found entries_by_node value_at
found_are = (refl, refl, refl, refl)

-- a page is its node's, and there
owns : OwnsPage pages 2 1 × (OwnsPage pages 1 1 → ⊥) × (OwnsPage pages 0 3 → ⊥)
owns = (record { within = omega arith; owner = refl }, λ h. (let e = h.owner in cc), λ h. (let e = h.within in omega (arith, e)))

another_nodes : IsOwned (1 ∷ []) pages → ⊥
unfolding IsOwned
another_nodes h = let e = (h 0 (omega arith)).owner in cc

-- a memo that is put to has the new value at the key, and no other than before elsewhere
put_at_the_key : (PutsAt ([] ∷ page ∷ []) ([] ∷ page ∷ []) 1 7 2 11 → ⊥)
    × (PutsAt ([] ∷ page ∷ []) ([] ∷ (at 7 2 11 ∷ []) ∷ []) 1 7 2 11 → ⊥)
    × (PutsAt ([] ∷ []) ((at 7 2 11 ∷ []) ∷ (at 7 2 11 ∷ []) ∷ []) 1 7 2 11 → ⊥)
unfolding found value_at
put_at_the_key = (
  λ puts. (let e : Some 10 ≡ Some 11 = puts 1 7 2 in cc),
  λ puts. (let e : None ≡ Some 12 = puts 1 2 7 in cc),
  λ puts. (let e : Some 11 ≡ None = puts 0 7 2 in cc),
)

same_found : (SameFound (page ∷ []) ([] ∷ page ∷ []) → ⊥) × (SameFound (page ∷ []) ((at 7 2 11 ∷ []) ∷ []) → ⊥)
unfolding found value_at
same_found = (λ h. (let e : None ≡ Some 10 = h 0 7 2 in cc), λ h. (let e : Some 11 ≡ Some 10 = h 0 7 2 in cc))
