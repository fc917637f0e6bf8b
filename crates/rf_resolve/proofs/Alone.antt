-- Concatenations whose left part is a text or a line break.
use Rattle.std.proofs.Common.{◌≡◌, ℕ, ◌+◌, ◌<◌, ◌≤◌, List, [], ◌∷◌, ◌++◌, refl, sym, ◌∙◌, ap, subst, arith, append-nil}
use Rattle.rf_base_document.specs.declared.directions.Dir.{Dir}
use Rattle.rf_base_document.specs.Document.{Doc}
use Rattle.rf_base_document.specs.Graph.{GraphNode, ConcatNode, IsNode, IsGraph, unfolded}
use Rattle.rf_base_document.proofs.Graph.{unfolded-node}
use Rattle.rf_base_cost.specs.declared.measures.Measure.{Measure}
use Rattle.rf_base_cost.specs.Cost.{Costs, Lawful, IsValue}
use Rattle.rf_base_cost.specs.Pareto.{IsFrontier, EachIsValue, pareto, all_shifted}
use Rattle.rf_base_optimum.specs.Plain.{plain, all_joined, EachEndsBy}
use Rattle.rf_frontier.specs.declared.hows.How.{How}
use Rattle.rf_frontier.specs.declared.hows.HowId.{HowId}
use Rattle.rf_frontier.specs.declared.views.Planned.{Planned}
use Rattle.rf_frontier.specs.Frontiers.{BelongTo, chosen}
use Rattle.rf_frontier.specs.Plans.{PlansBelongTo, all_planned}
use Rattle.rf_resolve.specs.declared.keys.Key.{Key}
use Rattle.rf_resolve.specs.declared.answering.Answer.{Answer}
use Rattle.rf_resolve.specs.declared.answering.Answer.TheVariants.{Frontier, Needs}
use Rattle.rf_resolve.specs.Keys.{IsAsked, key_at}
use Rattle.rf_resolve.specs.Holding.{IsFrontierAt, MemoView}
use Rattle.rf_resolve.specs.Answers.{Answers, JoinsAlone}
use Rattle.rf_resolve.specs.Joining.{joined_behind}
use Rattle.rf_resolve.proofs.Parts.{at_ends, at_values}
use Rattle.rf_resolve.proofs.Joined.{behind_of, join_begins, join_ends, concat_at}
use Rattle.rf_resolve.proofs.Needs.{earlier_needed}

-- nothing joined is a frontier of values, made of any ways
pub none_joined : {C : Type 0} (costs : Costs C) (ways : List How) (joined : List (Measure C Planned)) → joined ≡ [] → IsFrontier costs joined × EachIsValue costs joined × PlansBelongTo ways joined
unfolding IsFrontier EachIsValue PlansBelongTo
none_joined {C} costs ways joined none = subst (λ (l : List (Measure C Planned)). IsFrontier costs l × EachIsValue costs l × PlansBelongTo ways l) (sym none) (tt, tt, tt)

-- what is joined behind one measure
pub joined_alone : {C : Type 0} (costs : Costs C) (w : ℕ) (nodes : List GraphNode) (ways : List How) (part : Key) (m : Measure C HowId) (none joined : List (Measure C Planned)) (found : List (Measure C (List Dir))) →
    none ≡ [] → found ≡ behind_of costs w nodes part m.last → all_planned ways joined ≡ pareto costs (all_planned ways none ++ all_shifted costs (chosen ways m) found) →
    all_planned ways joined ≡ joined_behind costs w nodes part (chosen ways m ∷ [])
unfolding all_joined
joined_alone {C} costs w nodes ways part m none joined found n f added =
    added
    ∙ (ap (λ (j : List (Measure C Planned)). pareto costs (all_planned ways j ++ all_shifted costs (chosen ways m) found)) n
    ∙ (ap (λ (x : List (Measure C (List Dir))). pareto costs (all_shifted costs (chosen ways m) x)) f
    ∙ ap (λ (x : List (Measure C (List Dir))). pareto costs x) (sym (append-nil (all_shifted costs (chosen ways m) (behind_of costs w nodes part m.last))))))

-- a measure that is a frontier by itself
pub alone_ends : {C : Type 0} (costs : Costs C) (w : ℕ) (nodes : List GraphNode) (ways : List How) (key : Key) (m : Measure C HowId) → IsFrontierAt costs w nodes ways key (m ∷ []) → m.last ≤ w
unfolding EachEndsBy
alone_ends costs w nodes ways key m at = (at_ends costs w nodes ways key (m ∷ []) at).0

pub alone_value : {C : Type 0} (costs : Costs C) (laws : Lawful costs) (w : ℕ) (nodes : List GraphNode) (ways : List How) (key : Key) (m : Measure C HowId) → w ≤ 400 → IsAsked nodes w key →
    IsFrontierAt costs w nodes ways key (m ∷ []) → IsValue costs m.cost
unfolding EachIsValue
alone_value costs laws w nodes ways key m narrow asked at = (at_values costs laws w nodes ways key (m ∷ []) narrow asked at).0

-- what is said of one measure with the part behind it is said of the concatenation
pub concat_alone : {C : Type 0} (costs : Costs C) (w : ℕ) (nodes : List GraphNode) (old new : List How) (memo : MemoView C) (key part : Key) (a b : ℕ) (m : Measure C HowId) (said : Answer C) →
    IsGraph nodes → IsNode nodes key.node (ConcatNode a b) → part ≡ key_at key b key.indentation → chosen old m ∷ [] ≡ plain costs w (unfolded nodes a) key.column key.indentation → part.node < key.node →
    JoinsAlone costs w nodes old new memo part m said → Answers costs w nodes new memo key key.node said
unfolding plain
concat_alone {C} costs w nodes old new memo key part a b m (Frontier f) whole is at first less made = record {
  measures = made.0 ∙ (ap (λ (k : Key). joined_behind costs w nodes k (chosen old m ∷ [])) at
      ∙ (ap (λ (x : List (Measure C (List Dir))). pareto costs (all_joined costs x (λ last. plain costs w (unfolded nodes b) last key.indentation))) first
      ∙ sym (ap (λ (d : Doc). plain costs w d key.column key.indentation) (unfolded-node nodes key.node _ whole is))));
  belong = made.1;
}
concat_alone costs w nodes old new memo key part a b m (Needs need) whole is at first less made = earlier_needed nodes w memo need (part.node + 1) key.node (omega (arith, less)) made

-- behind nothing there is nothing
pub concat_none : {C : Type 0} (costs : Costs C) (laws : Lawful costs) (w : ℕ) (nodes : List GraphNode) (ways : List How) (key part : Key) (a b : ℕ) (f : List (Measure C HowId)) →
    IsGraph nodes → IsNode nodes key.node (ConcatNode a b) → part ≡ key_at key b key.indentation → [] ≡ plain costs w (unfolded nodes a) key.column key.indentation → f ≡ [] → IsFrontierAt costs w nodes ways key f
unfolding BelongTo
concat_none {C} costs laws w nodes ways key part a b f whole is at first none =
    subst (λ (l : List (Measure C HowId)). IsFrontierAt costs w nodes ways key l) (sym none)
    (concat_at costs w nodes ways ways key part a b [] [] [] whole is at first (join_ends costs laws w nodes ways part [] [] [] refl (join_begins costs w nodes ways part [] [] refl)) refl tt)
