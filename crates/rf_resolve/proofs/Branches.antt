-- Frontiers of choices and of charges, from those of their parts.
use Rattle.std.proofs.Common.{◌≡◌, ℕ, ◌≤◌, List, ◌++◌, sym, ◌∙◌, ap, ap₂}
use Rattle.rf_base_document.specs.declared.directions.Dir.{Dir}
use Rattle.rf_base_document.specs.declared.directions.Dir.TheVariants.{Left, Right}
use Rattle.rf_base_document.specs.Document.{Doc}
use Rattle.rf_base_document.specs.Graph.{GraphNode, ChoiceNode, OnlyNode, ChargeNode, IsNode, IsGraph, unfolded}
use Rattle.rf_base_document.proofs.Graph.{unfolded-node}
use Rattle.rf_base_cost.specs.declared.measures.Measure.{Measure}
use Rattle.rf_base_cost.specs.Cost.{Costs}
use Rattle.rf_base_cost.specs.Pareto.{pareto, all_marked, all_raised}
use Rattle.rf_base_optimum.specs.Plain.{plain}
use Rattle.rf_frontier.specs.declared.hows.How.{How}
use Rattle.rf_frontier.specs.declared.hows.HowId.{HowId}
use Rattle.rf_frontier.specs.Frontiers.{BelongTo, all_chosen}
use Rattle.rf_resolve.specs.declared.keys.Key.{Key}
use Rattle.rf_resolve.specs.Keys.{frontier_of, SameFrontier, key_at}
use Rattle.rf_resolve.specs.Holding.{IsFrontierAt}

-- the frontier of a part at the key's place, by the key at which it is found
pub at_part : {C : Type 0} (costs : Costs C) (w : ℕ) (nodes : List GraphNode) (ways : List How) (key part at : Key) (a : ℕ) (f : List (Measure C HowId)) →
    at ≡ key_at key a key.indentation → SameFrontier costs w nodes at part → IsFrontierAt costs w nodes ways part f →
    all_chosen ways f ≡ plain costs w (unfolded nodes a) key.column key.indentation
at_part costs w nodes ways key part at a f is same holds = holds.measures ∙ (same ∙ ap (λ (k : Key). frontier_of costs w nodes k) is)

pub choice_at : {C : Type 0} (costs : Costs C) (w : ℕ) (nodes : List GraphNode) (old new : List How) (key : Key) (a b : ℕ) (left right f : List (Measure C HowId)) →
    IsGraph nodes → IsNode nodes key.node (ChoiceNode a b) → all_chosen old left ≡ plain costs w (unfolded nodes a) key.column key.indentation →
    all_chosen old right ≡ plain costs w (unfolded nodes b) key.column key.indentation →
    all_chosen new f ≡ pareto costs (all_marked Left (all_chosen old left) ++ all_marked Right (all_chosen old right)) → BelongTo new f →
    IsFrontierAt costs w nodes new key f
unfolding plain
choice_at {C} costs w nodes old new key a b left right f whole is first second both belong = record {
  measures = both ∙ (ap₂ (λ (x y : List (Measure C (List Dir))). pareto costs (all_marked Left x ++ all_marked Right y)) first second
      ∙ sym (ap (λ (d : Doc). plain costs w d key.column key.indentation) (unfolded-node nodes key.node _ whole is)));
  belong = belong;
}

pub only_at : {C : Type 0} (costs : Costs C) (w : ℕ) (nodes : List GraphNode) (old new : List How) (key : Key) (dir : Dir) (a : ℕ) (side f : List (Measure C HowId)) →
    IsGraph nodes → IsNode nodes key.node (OnlyNode dir a) → all_chosen old side ≡ plain costs w (unfolded nodes a) key.column key.indentation →
    all_chosen new f ≡ all_marked dir (all_chosen old side) → BelongTo new f → IsFrontierAt costs w nodes new key f
unfolding plain
only_at {C} costs w nodes old new key dir a side f whole is part marked belong = record {
  measures = marked ∙ (ap (λ (x : List (Measure C (List Dir))). all_marked dir x) part
      ∙ sym (ap (λ (d : Doc). plain costs w d key.column key.indentation) (unfolded-node nodes key.node _ whole is)));
  belong = belong;
}

pub charge_at : {C : Type 0} (costs : Costs C) (w : ℕ) (nodes : List GraphNode) (ways : List How) (key : Key) (k a : ℕ) (part f : List (Measure C HowId)) →
    IsGraph nodes → IsNode nodes key.node (ChargeNode k a) → all_chosen ways part ≡ plain costs w (unfolded nodes a) key.column key.indentation →
    all_chosen ways f ≡ pareto costs (all_raised costs (costs.charge k) (all_chosen ways part)) → BelongTo ways f → IsFrontierAt costs w nodes ways key f
unfolding plain
charge_at {C} costs w nodes ways key k a part f whole is found charged belong = record {
  measures = charged ∙ (ap (λ (x : List (Measure C (List Dir))). pareto costs (all_raised costs (costs.charge k) x)) found
      ∙ sym (ap (λ (d : Doc). plain costs w d key.column key.indentation) (unfolded-node nodes key.node _ whole is)));
  belong = belong;
}

-- a charge of a graph is of at most 1,000
pub charge_limit : (nodes : List GraphNode) (m k a : ℕ) → IsGraph nodes → IsNode nodes m (ChargeNode k a) → k ≤ 1000
unfolding IsGraph
charge_limit nodes m k a whole is = (whole m (ChargeNode k a) is).1
