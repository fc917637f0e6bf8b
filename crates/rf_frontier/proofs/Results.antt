-- What the frontier of a list is besides.
use Rattle.std.proofs.Common.{◌≡◌, List, [], ◌∷◌, ◌++◌, Result, Ok, Err, IfOk, refl, ◌∙◌, ap}
use Rattle.rf_base_document.specs.declared.directions.Dir.{Dir}
use Rattle.rf_base_cost.specs.declared.measures.Measure.{Measure}
use Rattle.rf_base_cost.specs.Cost.{Costs, IsValue, Lawful}
use Rattle.rf_base_cost.specs.Pareto.{pareto, EachFollows, IsFrontier, EachIsValue, all_raised}
use Rattle.rf_base_cost.proofs.Pareto.{pareto_is_frontier, pareto_values}
use Rattle.rf_base_cost.proofs.Choices.{pareto_knows_no_choices, frontier_same, frontier_back, values_same, values_back}
use Rattle.rf_frontier.specs.declared.hows.How.{How}
use Rattle.rf_frontier.specs.declared.hows.HowId.{HowId}
use Rattle.rf_frontier.specs.Ways.{choices_of}
use Rattle.rf_frontier.specs.Frontiers.{all_chosen, BelongTo, all_behind}
use Rattle.rf_frontier.proofs.Steps.{same_frontier, same_values}
use Rattle.rf_frontier.proofs.Behind.{belong_pareto, same_belong}

pub is_ordered : {C H : Type 0} (costs : Costs C) (laws : Lawful costs) (f list : List (Measure C H)) → EachIsValue costs list → f ≡ pareto costs list → IsFrontier costs f
is_ordered costs laws f list v e = same_frontier costs f (pareto costs list) e (pareto_is_frontier costs laws list v)

pub are_values : {C H : Type 0} (costs : Costs C) (f list : List (Measure C H)) → EachIsValue costs list → f ≡ pareto costs list → EachIsValue costs f
are_values costs f list v e = same_values costs f (pareto costs list) e (pareto_values costs list v)

-- what the frontier of a list is, where there is one
pub record ArePruned {C E : Type 0} (costs : Costs C) (list : List (Measure C HowId)) (r : Result (List (Measure C HowId)) E) : Type 0 where
  pub is : IfOk r (λ f. f ≡ pareto costs list)
  pub ordered : IfOk r (λ f. IsFrontier costs f)
  pub values : IfOk r (λ f. EachIsValue costs f)
  pub chosen : IfOk r (λ f. (ways : List How) → all_chosen ways f ≡ pareto costs (all_chosen ways list))
  pub belongs : IfOk r (λ f. (ways : List How) → BelongTo ways list → BelongTo ways f)

pub are_pruned : {C E : Type 0} (costs : Costs C) (laws : Lawful costs) (r : Result (List (Measure C HowId)) E) (kept list : List (Measure C HowId)) → EachIsValue costs list → kept ≡ pareto costs list →
    IfOk r (λ f. f ≡ kept) → ArePruned costs list r
are_pruned {C = C} costs laws (Ok f) kept list v k p =
    let e : f ≡ pareto costs list = p ∙ k in
    record {
      is = e;
      ordered = is_ordered costs laws f list v e;
      values = are_values costs f list v e;
      chosen = λ ways. ap (λ (ms : List (Measure C HowId)). all_chosen ways ms) e ∙ pareto_knows_no_choices costs (λ (id : HowId). choices_of ways id.0) list;
      belongs = λ ways b. same_belong ways f (pareto costs list) e (belong_pareto costs ways list b);
    }
are_pruned costs laws (Err e) kept list v k p = record { is = p; ordered = p; values = p; chosen = p; belongs = p }

pub raised_chosen : {C : Type 0} (costs : Costs C) (by : C) (ways : List How) (list : List (Measure C HowId)) → all_chosen ways (all_raised costs by list) ≡ all_raised costs by (all_chosen ways list)
raised_chosen costs by ways [] = refl
raised_chosen costs by ways (x ∷ xs) = let rest = raised_chosen costs by ways xs in cc

-- a list of one measure
pub one_ordered : {C H : Type 0} (f : List (Measure C H)) (m : Measure C H) → f ≡ m ∷ [] → (costs : Costs C) → IsFrontier costs f
unfolding IsFrontier EachFollows
one_ordered f m e costs = same_frontier costs f (m ∷ []) e (tt, tt)

pub one_value : {C H : Type 0} (f : List (Measure C H)) (m : Measure C H) → f ≡ m ∷ [] → (costs : Costs C) → IsValue costs m.cost → EachIsValue costs f
unfolding EachIsValue
one_value f m e costs v = same_values costs f (m ∷ []) e (v, tt)

-- a frontier whose choices were put behind others
pub behind_ordered : {C : Type 0} (old new : List How) (f g : List (Measure C HowId)) (cs : List Dir) → all_chosen new g ≡ all_behind cs (all_chosen old f) → (costs : Costs C) → IsFrontier costs f → IsFrontier costs g
behind_ordered {C = C} old new f g cs e costs p =
    frontier_back costs (λ (id : HowId). choices_of new id.0) g
    (same_frontier costs (all_chosen new g) (all_behind cs (all_chosen old f)) e
    (frontier_same costs (λ (own : List Dir). cs ++ own) (all_chosen old f) (frontier_same costs (λ (id : HowId). choices_of old id.0) f p)))

pub behind_values : {C : Type 0} (old new : List How) (f g : List (Measure C HowId)) (cs : List Dir) → all_chosen new g ≡ all_behind cs (all_chosen old f) → (costs : Costs C) → EachIsValue costs f → EachIsValue costs g
behind_values {C = C} old new f g cs e costs p =
    values_back costs (λ (id : HowId). choices_of new id.0) g
    (same_values costs (all_chosen new g) (all_behind cs (all_chosen old f)) e
    (values_same costs (λ (own : List Dir). cs ++ own) (all_chosen old f) (values_same costs (λ (id : HowId). choices_of old id.0) f p)))

pub same_both : {C H : Type 0} (costs : Costs C) (one a two b : List (Measure C H)) → one ≡ a → two ≡ b → pareto costs (one ++ two) ≡ pareto costs (a ++ b)
same_both {C = C} {H = H} costs one a two b p q = ap (λ (ms : List (Measure C H)). pareto costs (ms ++ two)) p ∙ ap (λ (ms : List (Measure C H)). pareto costs (a ++ ms)) q

pub same_raised : {C H : Type 0} (costs : Costs C) (by at : C) (one a : List (Measure C H)) → by ≡ at → one ≡ a → pareto costs (all_raised costs by one) ≡ pareto costs (all_raised costs at a)
same_raised {C = C} {H = H} costs by at one a p q = ap (λ (b : C). pareto costs (all_raised costs b one)) p ∙ ap (λ (ms : List (Measure C H)). pareto costs (all_raised costs at ms)) q
