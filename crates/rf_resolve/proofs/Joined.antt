-- A concatenation's frontier, put together measure by measure.
use Rattle.std.proofs.Common.{◌≡◌, ℕ, ◌+◌, ◌≤◌, List, [], ◌∷◌, ◌++◌, length, refl, sym, ◌∙◌, ap, subst, arith, append_assoc, append-nil}
use Rattle.rf_base_document.specs.declared.directions.Dir.{Dir}
use Rattle.rf_base_document.specs.Document.{Doc}
use Rattle.rf_base_document.specs.Graph.{GraphNode, ConcatNode, IsNode, IsGraph, unfolded}
use Rattle.rf_base_document.proofs.Graph.{unfolded-node}
use Rattle.rf_base_cost.specs.declared.measures.Measure.{Measure}
use Rattle.rf_base_cost.specs.Cost.{Costs, Lawful, IsValue}
use Rattle.rf_base_cost.specs.Pareto.{IsFrontier, EachIsValue, pareto, all_shifted, all_rewayed}
use Rattle.rf_base_cost.proofs.Choices.{frontier_same, values_same}
use Rattle.rf_base_cost.proofs.Pareto.{frontier_is_pareto}
use Rattle.rf_base_cost.proofs.Members.{value_append}
use Rattle.rf_base_optimum.specs.Plain.{plain, all_joined, EachEndsBy}
use Rattle.rf_base_optimum.proofs.Frontier.{plain_values, plain_ends, joined_values, shifted_values, pareto_ends, ends_append, shifted_ends, frontier_short}
use Rattle.rf_base_cut.proofs.Pruned.{pareto_before}
use Rattle.rf_frontier.specs.declared.hows.How.{How}
use Rattle.rf_frontier.specs.declared.hows.HowId.{HowId}
use Rattle.rf_frontier.specs.declared.views.Planned.{Planned}
use Rattle.rf_frontier.specs.Ways.{choices_of}
use Rattle.rf_frontier.specs.Frontiers.{BelongTo, chosen, all_chosen}
use Rattle.rf_frontier.specs.Plans.{PlansBelongTo, planned_choices, all_planned}
use Rattle.rf_resolve.specs.declared.keys.Key.{Key}
use Rattle.rf_resolve.specs.Keys.{frontier_of, IsAsked, key_behind, key_at}
use Rattle.rf_resolve.specs.Holding.{IsFrontierAt}
use Rattle.rf_resolve.specs.Joining.{joined_behind, AreJoined}
use Rattle.rf_resolve.proofs.Parts.{narrow_column, node_document, ends_back}

-- the frontier of the part behind a column
abbrev pub behind_of : {C : Type 0} → Costs C → ℕ → List GraphNode → Key → ℕ → List (Measure C (List Dir))
behind_of costs w nodes part last = frontier_of costs w nodes (key_behind part last)

-- what is joined so far and what is left to join make the whole
pub record JoinsOn {C : Type 0} (costs : Costs C) (w : ℕ) (nodes : List GraphNode) (ways : List How) (part : Key) (whole left : List (Measure C HowId)) (joined : List (Measure C Planned)) : Type 0 where
  pub measures : pareto costs (all_planned ways joined ++ all_joined costs (all_chosen ways left) (behind_of costs w nodes part)) ≡ joined_behind costs w nodes part (all_chosen ways whole)
  pub plans : PlansBelongTo ways joined
  pub ordered : IsFrontier costs joined
  pub values : EachIsValue costs joined
  pub ends : EachEndsBy w joined

ends_same : {C H K : Type 0} (w : ℕ) (see : H → K) (f : List (Measure C H)) → EachEndsBy w f → EachEndsBy w (all_rewayed see f)
unfolding EachEndsBy
ends_same w see [] ends = tt
ends_same w see (m ∷ rest) ends = (ends.0, ends_same w see rest ends.1)

behind_values : {C : Type 0} (costs : Costs C) (laws : Lawful costs) (w : ℕ) (nodes : List GraphNode) (part : Key) (last : ℕ) → w ≤ 400 → IsAsked nodes w part →
    EachIsValue costs (behind_of costs w nodes part last)
behind_values costs laws w nodes part last narrow asked =
    plain_values costs laws w (unfolded nodes part.node) last part.indentation (narrow_column w narrow) (node_document nodes part.node asked.graph asked.node)

-- nothing is joined yet
pub join_begins : {C : Type 0} (costs : Costs C) (w : ℕ) (nodes : List GraphNode) (ways : List How) (part : Key) (whole : List (Measure C HowId)) (joined : List (Measure C Planned)) → joined ≡ [] →
    JoinsOn costs w nodes ways part whole whole joined
unfolding PlansBelongTo IsFrontier EachIsValue EachEndsBy
join_begins {C} costs w nodes ways part whole joined none =
    subst (λ (j : List (Measure C Planned)). JoinsOn costs w nodes ways part whole whole j) (sym none)
    record { measures = refl; plans = tt; ordered = tt; values = tt; ends = tt }

-- a value that all have is the first's
first_value : {C H : Type 0} (costs : Costs C) (m : Measure C H) (rest : List (Measure C H)) → EachIsValue costs (m ∷ rest) → IsValue costs m.cost × EachIsValue costs rest
unfolding EachIsValue
first_value costs m rest values = values

-- one more measure is joined
pub join_turn : {C : Type 0} (costs : Costs C) (laws : Lawful costs) (w : ℕ) (nodes : List GraphNode) (ways : List How) (part : Key) (whole left rest : List (Measure C HowId)) (right : List (Measure C (List Dir))) (m : Measure C HowId)
    (joined after : List (Measure C Planned)) → w ≤ 400 → IsAsked nodes w part → EachIsValue costs left → left ≡ m ∷ rest → right ≡ behind_of costs w nodes part m.last →
    all_planned ways after ≡ pareto costs (all_planned ways joined ++ all_shifted costs (chosen ways m) right) → PlansBelongTo ways after → IsFrontier costs after →
    EachIsValue costs after → JoinsOn costs w nodes ways part whole left joined → JoinsOn costs w nodes ways part whole rest after
unfolding all_joined
join_turn {C} costs laws w nodes ways part whole left rest right m joined after narrow asked left_values is behind added plans ordered values on =
    let these : EachIsValue costs (m ∷ rest) = subst (λ (l : List (Measure C HowId)). EachIsValue costs l) is left_values in
    let split = first_value costs m rest these in
    let so_far : List (Measure C (List Dir)) = all_planned ways joined in
    let shifted : List (Measure C (List Dir)) = all_shifted costs (chosen ways m) right in
    let others : List (Measure C (List Dir)) = all_joined costs (all_chosen ways rest) (behind_of costs w nodes part) in
    let right_values : EachIsValue costs right = subst (λ (l : List (Measure C (List Dir))). EachIsValue costs l) (sym behind) (behind_values costs laws w nodes part m.last narrow asked) in
    let shifted_are : EachIsValue costs shifted = shifted_values costs laws (chosen ways m) right split.0 right_values in
    let so_far_are : EachIsValue costs so_far = values_same costs (planned_choices ways) joined on.values in
    let others_are : EachIsValue costs others = joined_values costs laws (all_chosen ways rest) (behind_of costs w nodes part)
    (values_same costs (λ (id : HowId). choices_of ways id.0) rest split.1) (λ last. behind_values costs laws w nodes part last narrow asked) in
    let pruned : pareto costs (pareto costs (so_far ++ shifted) ++ others) ≡ pareto costs ((so_far ++ shifted) ++ others) =
    pareto_before costs laws (so_far ++ shifted) others (value_append costs so_far shifted so_far_are shifted_are) others_are in
    let here : shifted ++ others ≡ all_joined costs (all_chosen ways (m ∷ rest)) (behind_of costs w nodes part) =
    ap (λ (x : List (Measure C (List Dir))). all_shifted costs (chosen ways m) x ++ others) behind in
    record {
      measures = ap (λ (x : List (Measure C (List Dir))). pareto costs (x ++ others)) added
          ∙ (pruned ∙ (ap (λ (x : List (Measure C (List Dir))). pareto costs x) (append_assoc so_far shifted others ∙ ap (λ (x : List (Measure C (List Dir))). so_far ++ x) here)
          ∙ (ap (λ (l : List (Measure C HowId)). pareto costs (so_far ++ all_joined costs (all_chosen ways l) (behind_of costs w nodes part))) (sym is) ∙ on.measures)));
      plans = plans;
      ordered = ordered;
      values = values;
      ends = ends_back w (planned_choices ways) after
          (subst (λ (l : List (Measure C (List Dir))). EachEndsBy w l) (sym added)
          (pareto_ends costs w (so_far ++ shifted) (ends_append w so_far shifted (ends_same w (planned_choices ways) joined on.ends)
          (shifted_ends costs w (chosen ways m) right
          (subst (λ (l : List (Measure C (List Dir))). EachEndsBy w l) (sym behind) (plain_ends costs w (unfolded nodes part.node) m.last part.indentation))))));
    }

-- where nothing is left, what is joined is the whole
pub join_ends : {C : Type 0} (costs : Costs C) (laws : Lawful costs) (w : ℕ) (nodes : List GraphNode) (ways : List How) (part : Key) (whole left : List (Measure C HowId)) (joined : List (Measure C Planned)) →
    length left ≡ 0 → JoinsOn costs w nodes ways part whole left joined → AreJoined costs w nodes ways part whole joined
unfolding all_joined
join_ends {C} costs laws w nodes ways part whole [] joined none on = record {
  measures =
      sym (frontier_is_pareto costs laws (all_planned ways joined) (values_same costs (planned_choices ways) joined on.values) (frontier_same costs (planned_choices ways) joined on.ordered))
      ∙ (ap (λ (x : List (Measure C (List Dir))). pareto costs x) (sym (append-nil (all_planned ways joined))) ∙ on.measures);
  belong = on.plans;
}
join_ends costs laws w nodes ways part whole (m ∷ rest) joined none on = absurd (omega (arith, none))

pub join_short : {C : Type 0} (costs : Costs C) (w : ℕ) (nodes : List GraphNode) (ways : List How) (part : Key) (whole left : List (Measure C HowId)) (joined : List (Measure C Planned)) →
    JoinsOn costs w nodes ways part whole left joined → length joined ≤ w + 1
join_short costs w nodes ways part whole left joined on = frontier_short costs w joined on.ends on.ordered

-- the whole is the concatenation's frontier
pub concat_at : {C : Type 0} (costs : Costs C) (w : ℕ) (nodes : List GraphNode) (old new : List How) (key part : Key) (a b : ℕ) (left f : List (Measure C HowId)) (joined : List (Measure C Planned)) →
    IsGraph nodes → IsNode nodes key.node (ConcatNode a b) → part ≡ key_at key b key.indentation → all_chosen old left ≡ plain costs w (unfolded nodes a) key.column key.indentation →
    AreJoined costs w nodes old part left joined → all_chosen new f ≡ all_planned old joined → BelongTo new f → IsFrontierAt costs w nodes new key f
unfolding plain
concat_at {C} costs w nodes old new key part a b left f joined whole is at first are made belong = record {
  measures = made ∙ (are.measures ∙ (ap (λ (k : Key). joined_behind costs w nodes k (all_chosen old left)) at
      ∙ (ap (λ (x : List (Measure C (List Dir))). pareto costs (all_joined costs x (λ last. plain costs w (unfolded nodes b) last key.indentation))) first
      ∙ sym (ap (λ (d : Doc). plain costs w d key.column key.indentation) (unfolded-node nodes key.node _ whole is)))));
  belong = belong;
}

-- with nothing behind a measure what is joined so far stays
pub nothing_joined : {C : Type 0} (costs : Costs C) (laws : Lawful costs) (ways : List How) (left : Measure C HowId) (right : List (Measure C (List Dir))) (joined : List (Measure C Planned)) →
    right ≡ [] → IsFrontier costs joined → EachIsValue costs joined → all_planned ways joined ≡ pareto costs (all_planned ways joined ++ all_shifted costs (chosen ways left) right)
nothing_joined {C} costs laws ways left right joined none ordered values =
    sym (ap (λ (x : List (Measure C (List Dir))). pareto costs (all_planned ways joined ++ all_shifted costs (chosen ways left) x)) none
    ∙ (ap (λ (x : List (Measure C (List Dir))). pareto costs x) (append-nil (all_planned ways joined))
    ∙ frontier_is_pareto costs laws (all_planned ways joined) (values_same costs (planned_choices ways) joined values) (frontier_same costs (planned_choices ways) joined ordered)))
