-- Frontiers of concatenations, as they are put together.
use Rattle.std.proofs.Common.{◌≡◌, ◌<◌, ◌≤◌, List, [], ◌∷◌, ◌++◌, length, refl, sym, ◌∙◌, ap, append-nil, arith}
use Rattle.rf_base_document.specs.declared.directions.Dir.{Dir}
use Rattle.rf_base_cost.specs.declared.measures.Measure.{Measure}
use Rattle.rf_base_cost.specs.Cost.{Costs, IsValue, Lawful}
use Rattle.rf_base_cost.specs.Pareto.{rewayed, all_rewayed, raised, pareto, shifted, all_raised, all_shifted, IsFrontier, EachIsValue}
use Rattle.rf_base_cost.proofs.Pareto.{pareto_by_parts, frontier_is_pareto, pareto_is_frontier, pareto_values, pareto-shorter}
use Rattle.rf_base_cost.proofs.Choices.{pareto_knows_no_choices, values_same}
use Rattle.rf_frontier.specs.declared.hows.How.{How}
use Rattle.rf_frontier.specs.declared.hows.HowId.{HowId}
use Rattle.rf_frontier.specs.declared.before.Before.TheVariants.{Way}
use Rattle.rf_frontier.specs.declared.views.Planned.{Planned}
use Rattle.rf_frontier.specs.Frontiers.{chosen, all_chosen, BelongTo}
use Rattle.rf_frontier.specs.Plans.{planned_behind, planned_choices, all_planned, PlansBelongTo}
use Rattle.rf_frontier.proofs.Steps.{same_frontier, same_values}
use Rattle.rf_frontier.proofs.Raises.{raised_values}
use Rattle.rf_frontier.proofs.Behind.{raised-length}
use Rattle.rf_frontier.proofs.Results.{one_ordered, one_value}
use Rattle.rf_frontier.proofs.Seen.{seen-length}
use Rattle.rf_frontier.proofs.Made.{plans_pareto, plans_append, plans_behind}
use Rattle.rf_frontier.proofs.Marks.{planned_append}

-- the measures behind the left one, with their plans
abbrev pub joined_behind : {C : Type 0} → Costs C → Measure C HowId → List (Measure C HowId) → List (Measure C Planned)
joined_behind costs left right = all_raised costs left.cost (all_rewayed (planned_behind (Way left.how)) right)

joined_each : {C : Type 0} (costs : Costs C) (ways : List How) (left : Measure C HowId) (xs : List (Measure C HowId)) →
    all_planned ways (joined_behind costs left xs) ≡ all_shifted costs (chosen ways left) (all_chosen ways xs)
joined_each costs ways left [] = refl
joined_each {C = C} costs ways left (x ∷ xs) = ap (λ (ms : List (Measure C (List Dir))). shifted costs (chosen ways left) (chosen ways x) ∷ ms) (joined_each costs ways left xs)

pub joined_values : {C : Type 0} (costs : Costs C) (laws : Lawful costs) (left : Measure C HowId) (right : List (Measure C HowId)) → IsValue costs left.cost → EachIsValue costs right →
    EachIsValue costs (joined_behind costs left right)
joined_values costs laws left right u v = raised_values costs laws left.cost (all_rewayed (planned_behind (Way left.how)) right) u (values_same costs (planned_behind (Way left.how)) right v)

-- what is kept of a list that a frontier begins
after_frontier : {C H : Type 0} (costs : Costs C) (laws : Lawful costs) (xs ys : List (Measure C H)) → IsFrontier costs xs → EachIsValue costs xs → EachIsValue costs ys →
    pareto costs (xs ++ pareto costs ys) ≡ pareto costs (xs ++ ys)
after_frontier {C = C} {H = H} costs laws xs ys f u v =
    ap (λ (ms : List (Measure C H)). pareto costs (ms ++ pareto costs ys)) (sym (frontier_is_pareto costs laws xs u f)) ∙ pareto_by_parts costs laws xs ys u v

-- what is kept once the measures of the right are added
pub joined_is : {C : Type 0} (costs : Costs C) (laws : Lawful costs) (left : Measure C HowId) (right : List (Measure C HowId)) (kept raised joined : List (Measure C Planned)) →
    IsFrontier costs kept → EachIsValue costs kept → IsValue costs left.cost → EachIsValue costs right →
    raised ≡ pareto costs (joined_behind costs left right) → joined ≡ pareto costs (kept ++ raised) →
    (ways : List How) → all_planned ways joined ≡ pareto costs (all_planned ways kept ++ all_shifted costs (chosen ways left) (all_chosen ways right))
joined_is {C = C} costs laws left right kept raised joined f u w v r j ways =
    let more : List (Measure C Planned) = joined_behind costs left right in
    let whole : joined ≡ pareto costs (kept ++ more) =
    j ∙ (ap (λ (ms : List (Measure C Planned)). pareto costs (kept ++ ms)) r ∙ after_frontier costs laws kept more f u (joined_values costs laws left right w v)) in
    ap (all_planned ways) whole
    ∙ (pareto_knows_no_choices costs (planned_choices ways) (kept ++ more)
    ∙ ap (pareto costs) (planned_append ways kept more
    ∙ ap (λ (ms : List (Measure C (List Dir))). all_planned ways kept ++ ms) (joined_each costs ways left right)))

plans_raised : {C : Type 0} (costs : Costs C) (by : C) (ways : List How) (xs : List (Measure C Planned)) → PlansBelongTo ways xs → PlansBelongTo ways (all_raised costs by xs)
unfolding PlansBelongTo
plans_raised costs by ways [] b = tt
plans_raised costs by ways (x ∷ xs) b = (b.0, plans_raised costs by ways xs b.1)

pub joined_belongs : {C : Type 0} (costs : Costs C) (left : Measure C HowId) (right : List (Measure C HowId)) (kept raised joined : List (Measure C Planned)) →
    raised ≡ pareto costs (joined_behind costs left right) → joined ≡ pareto costs (kept ++ raised) →
    (ways : List How) → PlansBelongTo ways kept → left.how.0 < length ways → BelongTo ways right → PlansBelongTo ways joined
joined_belongs costs left right kept raised joined r j ways b p q =
    plans_pareto costs ways joined (kept ++ raised) j
    (plans_append ways kept raised b
    (plans_pareto costs ways raised (joined_behind costs left right) r
    (plans_raised costs left.cost ways (all_rewayed (planned_behind (Way left.how)) right) (plans_behind ways (Way left.how) right p q))))

pub joined_shorter : {C : Type 0} (costs : Costs C) (left : Measure C HowId) (right : List (Measure C HowId)) (raised : List (Measure C Planned)) →
    raised ≡ pareto costs (joined_behind costs left right) → length raised ≤ length right
joined_shorter {C = C} costs left right raised r =
    let seen : List (Measure C Planned) = all_rewayed (planned_behind (Way left.how)) right in
    let same : length raised ≡ length (pareto costs (all_raised costs left.cost seen)) = ap length r in
    let fewer : length (pareto costs (all_raised costs left.cost seen)) ≤ length (all_raised costs left.cost seen) = pareto-shorter costs (all_raised costs left.cost seen) in
    let one : length (all_raised costs left.cost seen) ≡ length seen = raised-length costs left.cost seen in
    let two : length seen ≡ length right = seen-length (planned_behind (Way left.how)) right in
    omega arith

pub raised_is : {C : Type 0} (costs : Costs C) (left : Measure C HowId) (seen right : List (Measure C HowId)) (raised : List (Measure C Planned)) →
    raised ≡ pareto costs (joined_behind costs left seen) → seen ≡ right → raised ≡ pareto costs (joined_behind costs left right)
raised_is {C = C} costs left seen right raised r e = r ∙ ap (λ (ms : List (Measure C HowId)). pareto costs (joined_behind costs left ms)) e

pub raised_kept : {C : Type 0} (costs : Costs C) (laws : Lawful costs) (left : Measure C HowId) (right : List (Measure C HowId)) (raised : List (Measure C Planned)) → IsValue costs left.cost → EachIsValue costs right →
    raised ≡ pareto costs (joined_behind costs left right) → IsFrontier costs raised × EachIsValue costs raised
raised_kept costs laws left right raised u v r =
    let values = joined_values costs laws left right u v in (
      same_frontier costs raised (pareto costs (joined_behind costs left right)) r (pareto_is_frontier costs laws (joined_behind costs left right) values),
      same_values costs raised (pareto costs (joined_behind costs left right)) r (pareto_values costs (joined_behind costs left right) values),
    )

-- one measure behind the left one
pub one_raised : {C : Type 0} (costs : Costs C) (laws : Lawful costs) (left right : Measure C HowId) (seen up : Measure C Planned) (one : List (Measure C Planned)) → IsValue costs left.cost → IsValue costs right.cost →
    seen ≡ rewayed (planned_behind (Way left.how)) right → up ≡ raised costs left.cost seen → one ≡ up ∷ [] → one ≡ pareto costs (joined_behind costs left (right ∷ []))
one_raised {C = C} costs laws left right seen up one u v s r e =
    let is : one ≡ joined_behind costs left (right ∷ []) = e ∙ ap (λ (m : Measure C Planned). m ∷ []) (r ∙ ap (λ (m : Measure C Planned). raised costs left.cost m) s) in
    is ∙ sym (frontier_is_pareto costs laws (joined_behind costs left (right ∷ [])) (joined_values costs laws left (right ∷ []) u (one_value (right ∷ []) right refl costs v))
    (one_ordered (joined_behind costs left (right ∷ [])) (raised costs left.cost (rewayed (planned_behind (Way left.how)) right)) refl costs))

-- merging with nothing
pub nothing_first : {C H : Type 0} (costs : Costs C) (laws : Lawful costs) (a b : List (Measure C H)) → a ≡ [] → IsFrontier costs b → EachIsValue costs b → b ≡ pareto costs (a ++ b)
nothing_first {C = C} {H = H} costs laws a b e f v = sym (ap (λ (ms : List (Measure C H)). pareto costs (ms ++ b)) e ∙ frontier_is_pareto costs laws b v f)

pub nothing_second : {C H : Type 0} (costs : Costs C) (laws : Lawful costs) (a b : List (Measure C H)) → b ≡ [] → IsFrontier costs a → EachIsValue costs a → a ≡ pareto costs (a ++ b)
nothing_second {C = C} {H = H} costs laws a b e f v =
    sym (ap (λ (ms : List (Measure C H)). pareto costs (a ++ ms)) e ∙ (ap (pareto costs) (append-nil a) ∙ frontier_is_pareto costs laws a v f))

pub still_is : {C H : Type 0} (costs : Costs C) (inside kept raised joined : List (Measure C H)) → inside ≡ kept → joined ≡ pareto costs (inside ++ raised) → joined ≡ pareto costs (kept ++ raised)
still_is {C = C} {H = H} costs inside kept raised joined e j = j ∙ ap (λ (ms : List (Measure C H)). pareto costs (ms ++ raised)) e
