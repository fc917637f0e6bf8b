-- Additions that reflect the order of costs.
use Rattle.std.specs.Prelude.{◌≡◌, ℕ, ◌+◌, ◌≤◌, List, length, Some}
use Rattle.rf_base_document.specs.Render.{Piece}
use Rattle.rf_base_cost.specs.Cost.{Costs, IsValue, AtMost, cost_of, PiecesAreCounted}

-- what costs no more behind a cost costs no more by itself
abbrev pub ReflectsOrder : {C : Type 0} → Costs C → Type 0
ReflectsOrder {C} costs =
    (a b c : C) → IsValue costs a → IsValue costs b → IsValue costs c →
    AtMost costs (costs.add a b) (costs.add a c) → AtMost costs b c

-- the same of what layouts cost that have at most n pieces together
abbrev pub ReflectsOrderUpTo : {C : Type 0} → Costs C → ℕ → Type 0
ReflectsOrderUpTo {C} costs n =
    (pieces others more : List Piece) (a b c : C) →
    PiecesAreCounted pieces → PiecesAreCounted others → PiecesAreCounted more →
    length pieces + length others ≤ n → length pieces + length more ≤ n →
    cost_of costs pieces ≡ Some a → cost_of costs others ≡ Some b → cost_of costs more ≡ Some c →
    AtMost costs (costs.add a b) (costs.add a c) → AtMost costs b c
