-- Dominance of measures by the laws of the order.
use Rattle.std.proofs.Common.{◌≡◌, ℕ, ◌<◌, ◌≤◌, Bool, true, false, not, ◌&&◌, refl, ◌⊎◌, inl, inr, arith}
use Rattle.std.specs.Prelude.{nat_le}
use Rattle.std.proofs.lemmas.Bool.Decides.{nat_tests}
use Rattle.std.proofs.lemmas.Bool.{cases_Bool, and_parts, and_from}
use Rattle.rf_base_cost.specs.declared.measures.Measure.{Measure}
use Rattle.rf_base_cost.specs.Cost.{Costs, IsValue, Lawful}
use Rattle.rf_base_cost.specs.Pareto.{dominates, outdoes}

pub not_true : (a : Bool) → not a ≡ true → a ≡ false
not_true true h = cc
not_true false h = refl

pub true_not_false : {A : Type 0} (b : Bool) → b ≡ true → b ≡ false → A
true_not_false b p q = cc

pub nat_le-true : (a b : ℕ) → nat_le a b ≡ true → a ≤ b
nat_le-true a b h = grind (arith, nat_tests)

pub true_le : (a b : ℕ) → a ≤ b → nat_le a b ≡ true
true_le a b h = grind (arith, nat_tests)

pub nat_le-false : (a b : ℕ) → nat_le a b ≡ false → b < a
nat_le-false a b h = grind (arith, nat_tests)

pub false_le : (a b : ℕ) → b < a → nat_le a b ≡ false
false_le a b h = grind (arith, nat_tests)

pub dominates-last : {C H : Type 0} (costs : Costs C) (a b : Measure C H) → dominates costs a b ≡ true → a.last ≤ b.last
dominates-last costs a b h = nat_le-true a.last b.last (and_parts (nat_le a.last b.last) (costs.le a.cost b.cost) h).0

pub dominates-cost : {C H : Type 0} (costs : Costs C) (a b : Measure C H) → dominates costs a b ≡ true →
    costs.le a.cost b.cost ≡ true
dominates-cost costs a b h = (and_parts (nat_le a.last b.last) (costs.le a.cost b.cost) h).1

pub dominates-from : {C H : Type 0} (costs : Costs C) (a b : Measure C H) → a.last ≤ b.last →
    costs.le a.cost b.cost ≡ true → dominates costs a b ≡ true
dominates-from costs a b p q = and_from (nat_le a.last b.last) (costs.le a.cost b.cost) (true_le a.last b.last p) q

-- what ends further right doesn't dominate
pub not_dominates-right : {C H : Type 0} (costs : Costs C) (a b : Measure C H) → b.last < a.last →
    dominates costs a b ≡ false
not_dominates-right costs a b p =
    elim (cases_Bool
    (dominates costs a b)) [
      | inr h ↦ h
      | inl h ↦ let q : a.last ≤ b.last = dominates-last costs a b h in absurd
          (omega arith)
    ]

-- what costs more doesn't dominate
pub not_dominates-dear : {C H : Type 0} (costs : Costs C) (a b : Measure C H) → costs.le a.cost b.cost ≡ false →
    dominates costs a b ≡ false
not_dominates-dear costs a b p =
    elim (cases_Bool (dominates costs a b)) [
      | inr h ↦ h
      | inl h ↦ true_not_false (costs.le a.cost b.cost)
          (dominates-cost costs a b h) p
    ]

pub dominates-refl : {C H : Type 0} (costs : Costs C) (laws : Lawful costs) (a : Measure C H) → IsValue costs a.cost →
    dominates costs a a ≡ true
dominates-refl costs laws a v =
    dominates-from costs a a (omega arith) (elim (laws.total a.cost a.cost v v) [ inl h ↦ h | inr h ↦ h ])

pub dominates-trans : {C H : Type 0} (costs : Costs C) (laws : Lawful costs) (a b c : Measure C H) →
    IsValue costs a.cost → IsValue costs b.cost → IsValue costs c.cost →
    dominates costs a b ≡ true → dominates costs b c ≡ true → dominates costs a c ≡ true
dominates-trans costs laws a b c u v w p q =
    let left : a.last ≤ b.last = dominates-last costs a b p in
    let right : b.last ≤ c.last = dominates-last costs b c q in
    dominates-from costs a c (omega arith)
    (laws.transitive a.cost b.cost c.cost u v w (dominates-cost costs a b p) (dominates-cost costs b c q))

-- of two measures with one last column one dominates the other
pub dominates-total : {C H : Type 0} (costs : Costs C) (laws : Lawful costs) (a b : Measure C H) →
    IsValue costs a.cost → IsValue costs b.cost → a.last ≡ b.last →
    (dominates costs a b ≡ true) ⊎ (dominates costs b a ≡ true)
dominates-total costs laws a b u v e =
    elim (laws.total a.cost b.cost u v) [
      | inl h ↦ inl (dominates-from costs a b (omega arith) h)
      | inr h ↦ inr (dominates-from costs b a (omega arith) h)
    ]

pub outdoes-is : {C H : Type 0} (costs : Costs C) (a b : Measure C H) → outdoes costs a b ≡ true →
    (dominates costs a b ≡ true) × (dominates costs b a ≡ false)
outdoes-is costs a b h =
    let p = and_parts (dominates costs a b) (not (dominates costs b a)) h in (p.0, not_true (dominates costs b a) p.1)

pub outdoes-from : {C H : Type 0} (costs : Costs C) (a b : Measure C H) → dominates costs a b ≡ true →
    dominates costs b a ≡ false → outdoes costs a b ≡ true
outdoes-from costs a b p q = cc

-- where the first doesn't outdo the second and isn't dominated by it, it doesn't dominate it
pub not_outdoes : {C H : Type 0} (costs : Costs C) (a b : Measure C H) → outdoes costs a b ≡ false →
    dominates costs b a ≡ false → dominates costs a b ≡ false
not_outdoes costs a b p q =
    elim (cases_Bool (dominates costs a b)) [
      | inr h ↦ h
      | inl h ↦ true_not_false (outdoes costs a b)
          (outdoes-from costs a b h q) p
    ]

pub outdoes-not : {C H : Type 0} (costs : Costs C) (a b : Measure C H) → dominates costs a b ≡ false →
    outdoes costs a b ≡ false
outdoes-not costs a b p = cc

pub outdoes-itself : {C H : Type 0} (costs : Costs C) (a : Measure C H) → outdoes costs a a ≡ false
outdoes-itself costs a = elim (cases_Bool (dominates costs a a)) [ inl h ↦ cc | inr h ↦ cc ]
