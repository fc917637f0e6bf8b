-- Worked examples of ways, of frontiers and of what a merge does: a definition that changes its meaning fails here.
use Rattle.std.proofs.Common.{◌≡◌, ℕ, ◌+◌, ◌<◌, true, List, [], ◌∷◌, ◌++◌, length, refl, arith}
use Rattle.std.specs.Prelude.{nat_le}
use Rattle.rf_base_document.specs.declared.directions.Dir.TheVariants.{Left, Right}
use Rattle.rf_base_cost.specs.declared.measures.Measure.{Measure}
use Rattle.rf_base_cost.specs.Cost.{Costs}
use Rattle.rf_base_cost.specs.Pareto.{undominated, placed, by_last, pareto}
use Rattle.rf_base_cut.specs.OneLine.{measured}
use Rattle.rf_frontier.specs.declared.before.Before.TheVariants.{Choice, Way}
use Rattle.rf_frontier.specs.declared.hows.How.{How}
use Rattle.rf_frontier.specs.declared.hows.How.TheVariants.{Leaf, Mark, Join}
use Rattle.rf_frontier.specs.declared.hows.HowId.{HowId}
use Rattle.rf_frontier.specs.declared.turns.Turn.TheVariants.{KeepFirst, KeepSecond, DropFirst, DropSecond}
use Rattle.rf_frontier.specs.Ways.{way_end, HasChoice, IsWays, all_choices, choices_of, JoinsChoices, KeepsWays, IsIn, choices_before}
use Rattle.rf_frontier.specs.Frontiers.{all_chosen, BelongTo, all_behind, all_charged}
use Rattle.rf_frontier.specs.Pending.{choices_to_come, EachHasChoices}
use Rattle.rf_frontier.specs.Plans.{planned_behind, planned_choices, all_planned, PlanIsIn, PlansBelongTo}
use Rattle.rf_frontier.specs.Raised.{EachCostsNoLess, IsRaised, kept_before}
use Rattle.rf_frontier.specs.Turns.{HeadsTurn, ListsTurn}
use Rattle.rf_frontier.proofs.Ways.{no_ways, added_is_ways, added_keeps}

abbrev way : ℕ → HowId
way n = record { 0 = n }

-- no choice; left; right and then left; what the third has, and then what the second has
abbrev ways : List How
ways = Leaf ∷ Mark Left (way 0) ∷ Mark Right (way 1) ∷ Join (way 2) (way 1) ∷ []

choices_are : (choices_of ways 0 ≡ []) × (choices_of ways 1 ≡ Left ∷ []) × (choices_of ways 2 ≡ Right ∷ Left ∷ [])
    × (choices_of ways 3 ≡ Right ∷ Left ∷ Left ∷ [])
unfolding choices_of all_choices
choices_are = (refl, refl, refl, refl)

-- a way's parts end below one more than the greatest of their numbers
ends_are : (way_end Leaf ≡ 0) × (way_end (Mark Left (way 2)) ≡ 3) × (way_end (Join (way 2) (way 5)) ≡ 6)
    × (way_end (Join (way 5) (way 2)) ≡ 6)
ends_are = (refl, refl, refl, refl)

-- only the first way may have no choice
leaf_has_none : HasChoice Leaf → ⊥
leaf_has_none h = h

first_joined_has_none : (HasChoice (Join (way 0) (way 1)) → ⊥) × (HasChoice (Join (way 1) (way 0)) → ⊥)
first_joined_has_none = (λ h. omega (arith, h.0), λ h. omega (arith, h.1))

joined_has : HasChoice (Join (way 1) (way 1))
joined_has = (omega arith, omega arith)

-- a way that names itself, and a second way of no choice, are no ways
two_are_ways : IsWays (Leaf ∷ Mark Left (way 0) ∷ [])
two_are_ways =
    added_is_ways (Leaf ∷ []) (Mark Left (way 0)) (added_is_ways [] Leaf no_ways (omega arith) (λ h. omega (arith, h)))
    (omega arith) (λ h. tt)

not_ways : (IsWays (Mark Left (way 0) ∷ []) → ⊥) × (IsWays (Leaf ∷ Leaf ∷ []) → ⊥)
unfolding IsWays
not_ways = (λ h. omega (arith, (h 0 (Mark Left (way 0)) refl).0), λ h. (h 1 Leaf refl).1 (omega arith))

-- of two ways that are joined each has a choice
leaf_is_joined : (JoinsChoices ways (Join (way 0) (way 1)) → ⊥) × (JoinsChoices ways (Join (way 1) (way 0)) → ⊥)
unfolding choices_of all_choices
leaf_is_joined =
    (λ h. (let e : 0 < 0 = h.0 in omega (arith, e)), λ h. (let e : 0 < 0 = h.1 in omega (arith, e)))

-- ways that are added keep the older ones; a way that is lost, or has another choice, isn't kept
kept_or_not : KeepsWays (Leaf ∷ []) (Leaf ∷ Mark Left (way 0) ∷ []) × (KeepsWays (Leaf ∷ []) [] → ⊥)
    × (KeepsWays (Leaf ∷ Mark Left (way 0) ∷ []) (Leaf ∷ Mark Right (way 0) ∷ []) → ⊥)
unfolding KeepsWays choices_of all_choices
kept_or_not = (
  added_keeps (Leaf ∷ []) (Mark Left (way 0)),
  λ h. omega (arith, h.0),
  λ h. (let e : Right ∷ [] ≡ Left ∷ [] = h.1 1 (omega arith) in cc),
)

-- what comes before is one choice, or a way's
before_are : (choices_before ways (Choice Left) ≡ Left ∷ []) × (choices_before ways (Way (way 2)) ≡ Right ∷ Left ∷ [])
    × IsIn ways (Way (way 3)) × (IsIn ways (Way (way 4)) → ⊥)
unfolding choices_of all_choices
before_are = (refl, refl, omega arith, λ h. omega (arith, h))

planned_are : (planned_choices ways (planned_behind (Way (way 2)) (way 1)) ≡ Right ∷ Left ∷ Left ∷ [])
    × (PlanIsIn ways (planned_behind (Way (way 4)) (way 1)) → ⊥)
    × (PlanIsIn ways (planned_behind (Way (way 1)) (way 4)) → ⊥)
unfolding choices_of all_choices
planned_are = (refl, λ h. omega (arith, h.0), λ h. omega (arith, h.1))

-- a measure by a way, and by a way that is planned
abbrev by : {H : Type 0} → ℕ → ℕ → H → Measure ℕ H
by last cost how = record { last = last; cost = cost; how = how }

chosen_are : (all_chosen ways (by 5 1 (way 2) ∷ []) ≡ measured 5 1 (Right ∷ Left ∷ []) ∷ [])
    × (all_planned ways (by 5 1 (planned_behind (Choice Left) (way 2)) ∷ [])
    ≡ measured 5 1 (Left ∷ Right ∷ Left ∷ []) ∷ [])
    × (all_behind {C = ℕ} (Left ∷ []) (measured 5 1 (Right ∷ []) ∷ []) ≡ measured 5 1 (Left ∷ Right ∷ []) ∷ [])
unfolding choices_of all_choices
chosen_are = (refl, refl, refl)

-- each measure's way is one of the ways, the last one too
last_belongs : BelongTo ways (by 5 1 (way 3) ∷ []) × (BelongTo ways (by 5 1 (way 3) ∷ by 4 2 (way 4) ∷ []) → ⊥)
unfolding BelongTo
last_belongs = ((omega arith, tt), λ h. omega (arith, h.1.0))

last_plan_belongs : PlansBelongTo ways (by 5 1 (planned_behind (Way (way 3)) (way 3)) ∷ [])
    × (PlansBelongTo ways (by 5 1 (planned_behind (Choice Left) (way 4)) ∷ []) → ⊥)
unfolding PlansBelongTo
last_plan_belongs = (((omega arith, omega arith), tt), λ h. omega (arith, h.0.1))

-- of the ways that are pending the last one comes first
last_comes_first : choices_to_come ways (way 1 ∷ way 2 ∷ []) ≡ Right ∷ Left ∷ Left ∷ []
unfolding choices_to_come choices_of all_choices
last_comes_first = refl

pending_have_choices : EachHasChoices ways (way 3 ∷ []) × (EachHasChoices ways (way 0 ∷ []) → ⊥)
    × (EachHasChoices ways (way 4 ∷ []) → ⊥)
unfolding EachHasChoices choices_of all_choices
pending_have_choices =
    ((omega arith, omega arith, tt), λ h. (let e : 0 < 0 = h.1 in omega (arith, e)), λ h. omega (arith, h.0))

-- costs that are lists of what was added, in order, compared by their lengths
abbrev listed : Costs (List ℕ)
listed = record {
  is_value = λ a. true;
  text = λ column len. len ∷ [];
  newline = λ indentation. indentation ∷ [];
  charge = λ k. k ∷ [];
  add = λ a b. a ++ b;
  le = λ a b. nat_le (length a) (length b);
}

-- the charge comes before the cost
charged_before : all_charged listed 7 (record { last = 5; cost = 1 ∷ []; how = way 0 } ∷ [])
    ≡ record { last = 5; cost = 7 ∷ 1 ∷ []; how = way 0 } ∷ []
charged_before = refl

abbrev counted : Costs ℕ
counted = record {
  is_value = λ a. true;
  text = λ column len. len;
  newline = λ indentation. 10;
  charge = λ k. k;
  add = λ a b. a + b;
  le = nat_le;
}

-- a measure by the first way, whose cost is a number
abbrev at : ℕ → ℕ → Measure ℕ ℕ
at last cost = by last cost 0

-- once raised, measures may cost the same, but still end further left
raised_fall : IsRaised counted (at 5 3 ∷ at 4 3 ∷ []) × (IsRaised counted (at 5 3 ∷ at 5 3 ∷ []) → ⊥)
    × (IsRaised counted (at 5 3 ∷ at 4 2 ∷ []) → ⊥)
unfolding IsRaised EachCostsNoLess
raised_fall = (((omega arith, refl, tt), (tt, tt)), λ h. omega (arith, h.0.0), λ h. (let e = h.0.1 in cc))

-- the held measure goes where the next one costs no more
held_goes : (kept_before counted [] (at 5 3) (at 4 3) ≡ [])
    × (kept_before counted [] (at 5 3) (at 4 4) ≡ at 5 3 ∷ [])
held_goes = (refl, refl)

-- the measure that ends further right is kept first, where the other costs more; of equals the second goes
heads_turn : HeadsTurn counted (at 5 3) (at 4 4) KeepFirst × HeadsTurn counted (at 4 4) (at 5 3) KeepSecond
    × HeadsTurn counted (at 5 3) (at 4 3) DropFirst × HeadsTurn counted (at 5 3) (at 5 3) DropSecond
heads_turn = ((omega arith, refl), (omega arith, refl), refl, refl)

equals_turn : (HeadsTurn counted (at 5 3) (at 5 3) DropFirst → ⊥)
    × (HeadsTurn counted (at 5 3) (at 5 4) KeepFirst → ⊥) × (HeadsTurn counted (at 5 4) (at 5 3) KeepSecond → ⊥)
    × (HeadsTurn counted (at 5 3) (at 4 3) KeepFirst → ⊥) × (HeadsTurn counted (at 4 3) (at 5 3) KeepSecond → ⊥)
equals_turn = (λ h. cc, λ h. omega (arith, h.0), λ h. omega (arith, h.0), λ h. (let e = h.1 in cc), λ h. (let e = h.1 in cc))

alone_turn : ListsTurn counted [] (at 5 3 ∷ []) KeepSecond × ListsTurn counted (at 5 3 ∷ []) [] KeepFirst
alone_turn = (refl, refl)

-- one more measure comes behind a frontier, or in place of what it outdoes
one_behind : (pareto counted (at 5 3 ∷ at 4 4 ∷ at 3 5 ∷ []) ≡ at 5 3 ∷ at 4 4 ∷ at 3 5 ∷ [])
    × (pareto counted (at 5 3 ∷ at 4 4 ∷ at 3 4 ∷ []) ≡ at 5 3 ∷ at 3 4 ∷ [])
    × (pareto counted (at 5 3 ∷ at 4 4 ∷ at 3 3 ∷ []) ≡ at 3 3 ∷ [])
unfolding pareto undominated by_last placed
one_behind = (refl, refl, refl)
