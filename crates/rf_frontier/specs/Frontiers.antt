-- Frontiers whose choices are ways.
use Rattle.std.specs.Prelude.{ℕ, ◌<◌, List, [], ◌∷◌, ◌++◌, length, ⊤}
use Rattle.rf_base_document.specs.declared.directions.Dir.{Dir}
use Rattle.rf_base_cost.specs.declared.measures.Measure.{Measure}
use Rattle.rf_base_cost.specs.Cost.{Costs}
use Rattle.rf_base_cost.specs.Pareto.{all_raised, rewayed, all_rewayed}
use Rattle.rf_frontier.specs.declared.hows.HowId.{HowId}
use Rattle.rf_frontier.specs.declared.hows.How.{How}
use Rattle.rf_frontier.specs.Ways.{choices_of}

-- the measure with the choices that its way unfolds to
abbrev pub chosen : {C : Type 0} → List How → Measure C HowId → Measure C (List Dir)
chosen ways m = rewayed (λ (id : HowId). choices_of ways id.0) m

-- the measures with the choices that their ways unfold to
abbrev pub all_chosen : {C : Type 0} → List How → List (Measure C HowId) → List (Measure C (List Dir))
all_chosen ways list = all_rewayed (λ (id : HowId). choices_of ways id.0) list

-- the way of each measure is one of the ways
unfoldable pub BelongTo : {C : Type 0} → List How → List (Measure C HowId) → Type 0
BelongTo ways [] = ⊤
BelongTo ways (m ∷ rest) = (m.how.0 < length ways) × BelongTo ways rest

-- the measures, each with these choices before its own
abbrev pub all_behind : {C : Type 0} → List Dir → List (Measure C (List Dir)) → List (Measure C (List Dir))
all_behind choices list = all_rewayed (λ own. choices ++ own) list

-- the measures, each with the charge of k before its cost
abbrev pub all_charged : {C H : Type 0} → Costs C → ℕ → List (Measure C H) → List (Measure C H)
all_charged costs k list = all_raised costs (costs.charge k) list
