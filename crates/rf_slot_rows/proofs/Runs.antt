-- So many slots of those that are still to come.
use Rattle.std.proofs.Common.{◌≡◌, ℕ, zero, suc, ◌+◌, ◌-◌, ◌<◌, ◌≤◌, Option, None, Some, List, [], ◌∷◌, length, map, take, drop, slice_get, refl, sym, ap, ◌∙◌, subst, arith}
use Rattle.std.proofs.lemmas.List.{length-take, length-drop, drop-drop, take_all}
use Rattle.rf_tree.specs.Slots.{NodeSlot, kept_slot}
use Rattle.std.specs.Option.{option_map}
use Rattle.std.proofs.lemmas.Option.{slice_get-map}
use Rattle.rf_tree.specs.declared.slotting.Slot.{Slot}
use Rattle.std.specs.Prelude.{IfOk, OnOk}
use Rattle.std.proofs.Common.{Result, Ok, Err}
use Rattle.rf_tree.specs.Ahead.{BeginWith}
use Rattle.rf_tree.specs.declared.nodes.At.{At}
use Rattle.rf_slot_rows.specs.Nodes.{BeginOf}

-- the slot at a place, and those behind it
pub record SlotAhead (all : List NodeSlot) (i : ℕ) (k : NodeSlot) (rest : List NodeSlot) : Type 0 where
  pub at : slice_get all i ≡ Some k
  pub rest_is : rest ≡ drop (i + 1) all
  pub within : i + 1 ≤ length all

ahead_at : (all : List NodeSlot) (i : ℕ) (k : NodeSlot) (rest : List NodeSlot) → drop i all ≡ k ∷ rest → SlotAhead all i k rest
ahead_at [] zero k rest d = cc
ahead_at [] (suc i) k rest d = cc
ahead_at (x ∷ all) zero k rest d = record { at = (let same : x ≡ k = cc in ap (λ (y : NodeSlot). Some y) same); rest_is = (let same : all ≡ rest = cc in sym same); within = omega arith }
ahead_at (x ∷ all) (suc i) k rest d =
    let behind = ahead_at all i k rest d in
    let more : suc i + 1 ≡ suc (i + 1) = omega arith in
    let within = behind.within in
    record { at = behind.at; rest_is = behind.rest_is ∙ sym (ap (λ (n : ℕ). drop n (x ∷ all)) more); within = omega (arith, within) }

taken_at : (all : List NodeSlot) (i n : ℕ) (k : NodeSlot) → slice_get all i ≡ Some k → i < n → slice_get (take n all) i ≡ Some k
taken_at [] i n k at less = cc
taken_at (x ∷ all) zero zero k at less = absurd (omega (arith, less))
taken_at (x ∷ all) zero (suc n) k at less = at
taken_at (x ∷ all) (suc i) zero k at less = absurd (omega (arith, less))
taken_at (x ∷ all) (suc i) (suc n) k at less = taken_at all i n k at (omega (arith, less))

-- one slot more of the first so many
pub record RunMore (all : List NodeSlot) (most i : ℕ) (k : NodeSlot) (rest : List NodeSlot) : Type 0 where
  pub at : slice_get (take most all) i ≡ Some k
  pub rest_is : rest ≡ drop (i + 1) all
  pub within : i + 1 ≤ length all
  pub less : i + 1 ≤ most

pub run_taken : (all ahead rest : List NodeSlot) (most i : ℕ) (k : NodeSlot) → ahead ≡ drop i all → i ≤ most → 1 ≤ most - i → ahead ≡ k ∷ rest → RunMore all most i k rest
run_taken all ahead rest most i k drops le some is =
    let at = ahead_at all i k rest (sym drops ∙ is) in
    let less : i + 1 ≤ most = omega (arith, some, le) in
    record { at = taken_at all i most k at.at (omega (arith, less)); rest_is = at.rest_is; within = at.within; less = less }

-- what is told of the first slot
pub begun_at : (slots : List NodeSlot) (o : Option At) (at : At) → o ≡ Some at → BeginWith slots o → BeginWith slots (Some at)
begun_at slots o at is begin = subst (λ (x : Option At). BeginWith slots x) is begin

pub none_begun : (slots : List NodeSlot) (o : Option At) → o ≡ None → BeginWith slots o → slots ≡ []
none_begun slots o is begin = subst (λ (x : Option At). BeginWith slots x) is begin

-- two things that hold where a result is fine
pub both_ok : {A E : Type 0} (r : Result A E) (P : A → Type 0) (Q : Type 0) → IfOk r P → OnOk r Q → IfOk r (λ x. P x × Q)
both_ok (Ok x) P Q p q = (p, q)
both_ok (Err e) P Q p q = tt

pub begun_of : (left : ℕ) (slots : List NodeSlot) (o : Option At) (at : At) → o ≡ Some at → BeginOf left slots o → (1 ≤ left) × BeginWith slots (Some at)
begun_of left slots o at is begin = subst (λ (x : Option At). BeginOf left slots x) is begin

-- no slot more of the first so many
pub record RunDone (all : List NodeSlot) (most i : ℕ) (rest : List NodeSlot) : Type 0 where
  pub count : length (take most all) ≡ i
  pub left : rest ≡ drop most all

nothing_taken : (n : ℕ) (slots : List NodeSlot) → take n slots ≡ [] → drop n slots ≡ slots
nothing_taken zero slots none = refl
nothing_taken (suc n) [] none = refl
nothing_taken (suc n) (k ∷ slots) none = cc

pub run_done : (all ahead : List NodeSlot) (most i : ℕ) (o : Option At) → o ≡ None → ahead ≡ drop i all → i ≤ most → i ≤ length all → BeginOf (most - i) ahead o → RunDone all most i ahead
run_done all ahead most i o is drops le within begin =
    let none = subst (λ (x : Option At). BeginOf (most - i) ahead x) is begin in
    let nothing : length (take (most - i) (drop i all)) ≡ 0 = ap (λ (xs : List NodeSlot). length (take (most - i) xs)) (sym drops) ∙ ap length none in
    let most_is : i + (most - i) ≡ most = omega (arith, le) in
    record {
      count = omega (arith, nothing, length-take (most - i) (drop i all), length-drop i all, length-take most all, le, within);
      left = sym (nothing_taken (most - i) ahead none) ∙ ap (λ (xs : List NodeSlot). drop (most - i) xs) drops ∙ drop-drop (most - i) i all ∙ ap (λ (n : ℕ). drop n all) most_is;
    }

-- all slots, where there are no more than so many
pub all_taken : (all : List NodeSlot) (n : ℕ) → length all ≤ n → take n all ≡ all
all_taken all n le = take_all n all le

-- the slot at a place of slots with comments of their own
pub kept_at : (all : List Slot) (i : ℕ) (s : Slot) → slice_get all i ≡ Some s → slice_get (map kept_slot all) i ≡ Some (kept_slot s)
kept_at all i s at = slice_get-map kept_slot all i ∙ ap (option_map kept_slot) at
