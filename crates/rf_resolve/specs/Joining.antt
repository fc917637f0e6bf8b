-- The frontiers behind the measures of a concatenation's left part.
use Rattle.std.specs.Prelude.{◌≡◌, false, ℕ, List, [], ◌∷◌, Some, ⊤}
use Rattle.rf_base_document.specs.declared.directions.Dir.{Dir}
use Rattle.rf_base_document.specs.Graph.{GraphNode}
use Rattle.rf_base_cost.specs.declared.measures.Measure.{Measure}
use Rattle.rf_base_cost.specs.Cost.{Costs}
use Rattle.rf_base_cost.specs.Pareto.{pareto}
use Rattle.rf_base_optimum.specs.Plain.{all_joined}
use Rattle.rf_frontier.specs.declared.hows.How.{How}
use Rattle.rf_frontier.specs.declared.hows.HowId.{HowId}
use Rattle.rf_frontier.specs.declared.views.Planned.{Planned}
use Rattle.rf_frontier.specs.Frontiers.{all_chosen}
use Rattle.rf_frontier.specs.Plans.{PlansBelongTo, all_planned}
use Rattle.rf_resolve.specs.declared.keys.Key.{Key}
use Rattle.rf_resolve.specs.Keys.{frontier_of, leaf_at, seen, key_behind}
use Rattle.rf_resolve.specs.Holding.{found_at, MemoView}

-- the memo has a frontier at the key
abbrev pub IsKnown : {C : Type 0} → MemoView C → Key → Type 0
IsKnown {C} memo key = (f : List (Measure C HowId)) × (found_at memo key ≡ Some f)

-- the memo has a frontier at the key, unless its node is a text or a line break
abbrev pub IsGiven : {C : Type 0} → List GraphNode → MemoView C → Key → Type 0
IsGiven nodes memo key = leaf_at nodes key.node ≡ false → IsKnown memo key

-- the part's frontier is given behind each of these measures
unfoldable pub EachIsGiven : {C : Type 0} → List GraphNode → ℕ → MemoView C → Key → List (Measure C HowId) → Type 0
EachIsGiven nodes w memo part [] = ⊤
EachIsGiven nodes w memo part (m ∷ rest) =
    IsGiven nodes memo (seen nodes w (key_behind part m.last)) × EachIsGiven nodes w memo part rest

-- the frontier of these measures with the part behind each
abbrev pub joined_behind : {C : Type 0} → Costs C → ℕ → List GraphNode → Key → List (Measure C (List Dir)) →
    List (Measure C (List Dir))
joined_behind costs w nodes part left =
    pareto costs (all_joined costs left (λ last. frontier_of costs w nodes (key_behind part last)))

-- the measures with their planned ways are the frontier of these measures with the part behind each
pub record AreJoined {C : Type 0} (costs : Costs C) (w : ℕ) (nodes : List GraphNode) (ways : List How) (part : Key)
    (left : List (Measure C HowId)) (joined : List (Measure C Planned)) : Type 0 where
  pub measures : all_planned ways joined ≡ joined_behind costs w nodes part (all_chosen ways left)
  pub belong : PlansBelongTo ways joined
