-- Nodes that stand before a number.
use Rattle.std.proofs.Common.{◌≡◌, ℕ, ◌<◌, ◌≤◌, Option, None, Some, List, [], ◌∷◌, ◌++◌, slice_get, subst}
use Rattle.std.specs.List.{AllByRecursion}
use Rattle.std.proofs.lemmas.List.Elements.{All-from_recursion}
use Rattle.std.proofs.lemmas.Option.{slice_get_within, get_or_from_slice_get}
use Rattle.rf_base_tree.specs.Slots.{perhaps}
use Rattle.rf_tree.specs.Slots.{NodeSlot, parts_in, NodeSlotsBelow}
use Rattle.rf_tree.specs.declared.nodes.At.{At}
use Rattle.rf_tree.proofs.NextSlots.{all_wider}
use Rattle.rf_ways.specs.Below.{AtBelow}

-- the nodes of a slot, each in its place, are there
pub record SlotBelow (n : ℕ) (s : NodeSlot) : Type 0 where
  pub leads : AllByRecursion (λ at. at.0 < n) s.leads
  pub key : AtBelow n s.key
  pub datum : AtBelow n s.datum
  pub trailing : AtBelow n s.trailing

pub below_front : (n : ℕ) (xs ys : List At) → AllByRecursion (λ at. at.0 < n) (xs ++ ys) → AllByRecursion (λ at. at.0 < n) xs × AllByRecursion (λ at. at.0 < n) ys
below_front n [] ys h = (tt, h)
below_front n (x ∷ xs) ys h = let rest = below_front n xs ys h.1 in ((h.0, rest.0), rest.1)

below_perhaps : (n : ℕ) (at : Option At) (ys : List At) → AllByRecursion (λ at. at.0 < n) (perhaps at ys) → AtBelow n at × AllByRecursion (λ at. at.0 < n) ys
below_perhaps n None ys h = (tt, h)
below_perhaps n (Some at) ys h = (h.0, h.1)

pub slot_below : (n : ℕ) (s : NodeSlot) → AllByRecursion (λ at. at.0 < n) (parts_in s) → SlotBelow n s
slot_below n s h =
    let leads = below_front n s.leads (perhaps s.key (perhaps s.datum (perhaps s.trailing []))) h in
    let key = below_perhaps n s.key (perhaps s.datum (perhaps s.trailing [])) leads.1 in
    let datum = below_perhaps n s.datum (perhaps s.trailing []) key.1 in
    record { leads = leads.0; key = key.0; datum = datum.0; trailing = (below_perhaps n s.trailing [] datum.1).0 }

-- a slot's nodes are below what all slots' nodes are below
pub below_at : (n : ℕ) (kept : List NodeSlot) (i : ℕ) (k : NodeSlot) → NodeSlotsBelow n kept → slice_get kept i ≡ Some k → AllByRecursion (λ at. at.0 < n) (parts_in k)
below_at n kept i k below e =
    subst (λ (s : NodeSlot). AllByRecursion (λ at. at.0 < n) (parts_in s)) (get_or_from_slice_get kept i k k e)
    (All-from_recursion (λ s. AllByRecursion (λ at. at.0 < n) (parts_in s)) kept below i k (slice_get_within kept i k e))

pub slots_wider : (n m : ℕ) (kept : List NodeSlot) → n ≤ m → NodeSlotsBelow n kept → NodeSlotsBelow m kept
slots_wider n m [] h all = tt
slots_wider n m (k ∷ kept) h all = (all_wider n m (parts_in k) h all.0, slots_wider n m kept h all.1)
