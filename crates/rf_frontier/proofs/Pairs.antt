-- The frontier of two measures.
use Rattle.std.proofs.Common.{◌≡◌, List, [], ◌∷◌, refl, ◌∙◌, ap, subst}
use Rattle.rf_base_cost.specs.declared.measures.Measure.{Measure}
use Rattle.rf_base_cost.specs.Cost.{Costs, IsValue, Lawful}
use Rattle.rf_base_cost.specs.Pareto.{pareto, EachIsValue}
use Rattle.rf_base_cost.proofs.Pareto.{frontier_is_pareto}
use Rattle.rf_frontier.specs.Turns.{HeadsTurn}
use Rattle.rf_frontier.specs.declared.turns.Turn.{Turn}
use Rattle.rf_frontier.specs.declared.turns.Turn.TheVariants.{KeepFirst, KeepSecond, DropFirst, DropSecond}
use Rattle.rf_frontier.proofs.Results.{one_ordered, one_value}
use Rattle.rf_frontier.proofs.Steps.{heads_turn}

-- what is kept of two measures
abbrev pub two_kept : {C H : Type 0} → Measure C H → Measure C H → Turn → List (Measure C H)
two_kept x y KeepFirst = x ∷ y ∷ []
two_kept x y KeepSecond = y ∷ x ∷ []
two_kept x y DropFirst = y ∷ []
two_kept x y DropSecond = x ∷ []

pub one_is : {C H : Type 0} (costs : Costs C) (laws : Lawful costs) (x : Measure C H) → IsValue costs x.cost → pareto costs (x ∷ []) ≡ x ∷ []
one_is costs laws x u = frontier_is_pareto costs laws (x ∷ []) (one_value (x ∷ []) x refl costs u) (one_ordered (x ∷ []) x refl costs)

pub two_is : {C H : Type 0} (costs : Costs C) (laws : Lawful costs) (x y : Measure C H) (turn : Turn) → IsValue costs x.cost → IsValue costs y.cost →
    HeadsTurn costs x y turn → pareto costs (x ∷ y ∷ []) ≡ two_kept x y turn
two_is {C = C} {H = H} costs laws x y KeepFirst u v h =
    (heads_turn costs laws x y [] [] KeepFirst (one_ordered (x ∷ []) x refl costs) (one_ordered (y ∷ []) y refl costs) (one_value (x ∷ []) x refl costs u) (one_value (y ∷ []) y refl costs v) h).1 x
    ∙ ap (λ (ms : List (Measure C H)). x ∷ ms) (one_is costs laws y v)
two_is {C = C} {H = H} costs laws x y KeepSecond u v h =
    (heads_turn costs laws x y [] [] KeepSecond (one_ordered (x ∷ []) x refl costs) (one_ordered (y ∷ []) y refl costs) (one_value (x ∷ []) x refl costs u) (one_value (y ∷ []) y refl costs v) h).1 x
    ∙ ap (λ (ms : List (Measure C H)). y ∷ ms) (one_is costs laws x u)
two_is costs laws x y DropFirst u v h =
    (heads_turn costs laws x y [] [] DropFirst (one_ordered (x ∷ []) x refl costs) (one_ordered (y ∷ []) y refl costs) (one_value (x ∷ []) x refl costs u) (one_value (y ∷ []) y refl costs v) h).1
    ∙ one_is costs laws y v
two_is costs laws x y DropSecond u v h =
    (heads_turn costs laws x y [] [] DropSecond (one_ordered (x ∷ []) x refl costs) (one_ordered (y ∷ []) y refl costs) (one_value (x ∷ []) x refl costs u) (one_value (y ∷ []) y refl costs v) h).1
    ∙ one_is costs laws x u

-- the measure that is alone among values is one
pub alone_value : {C H : Type 0} (costs : Costs C) (list : List (Measure C H)) (x : Measure C H) → list ≡ x ∷ [] → EachIsValue costs list → IsValue costs x.cost
unfolding EachIsValue
alone_value {C = C} {H = H} costs list x e v = (subst (λ (ms : List (Measure C H)). EachIsValue costs ms) e v).0
