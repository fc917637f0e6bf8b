-- Frontiers of choices.
use Rattle.std.proofs.Common.{◌≡◌, List, [], ◌∷◌, ◌++◌, length, ◌≤◌, ◌+◌, refl, ◌∙◌, ap, arith, length-append}
use Rattle.rf_base_document.specs.declared.directions.Dir.{Dir}
use Rattle.rf_base_cost.specs.declared.measures.Measure.{Measure}
use Rattle.rf_base_cost.specs.Cost.{Costs, Lawful}
use Rattle.rf_base_cost.specs.Pareto.{all_rewayed, pareto, marked, all_marked, IsFrontier, EachIsValue}
use Rattle.rf_base_cost.proofs.Members.{value_append}
use Rattle.rf_base_cost.proofs.Pareto.{pareto_is_frontier, pareto_values, pareto-shorter}
use Rattle.rf_base_cost.proofs.Choices.{pareto_knows_no_choices, values_same}
use Rattle.rf_frontier.specs.declared.hows.How.{How}
use Rattle.rf_frontier.specs.declared.hows.HowId.{HowId}
use Rattle.rf_frontier.specs.declared.before.Before.{Before}
use Rattle.rf_frontier.specs.declared.before.Before.TheVariants.{Choice}
use Rattle.rf_frontier.specs.declared.views.Planned.{Planned}
use Rattle.rf_frontier.specs.Ways.{IsIn}
use Rattle.rf_frontier.specs.Frontiers.{chosen, all_chosen, BelongTo}
use Rattle.rf_frontier.specs.Plans.{planned_behind, planned_choices, all_planned, PlansBelongTo}
use Rattle.rf_frontier.proofs.Steps.{same_frontier, same_values}
use Rattle.rf_frontier.proofs.Seen.{seen-length}
use Rattle.rf_frontier.proofs.Made.{plans_pareto, plans_append, plans_behind}

-- the measures of both lists, each behind what comes before those of its list
abbrev pub both_behind : {C : Type 0} → Before → List (Measure C HowId) → Before → List (Measure C HowId) → List (Measure C Planned)
both_behind left a right b = all_rewayed (planned_behind left) a ++ all_rewayed (planned_behind right) b

marks_each : {C : Type 0} (ways : List How) (dir : Dir) (xs : List (Measure C HowId)) → all_planned ways (all_rewayed (planned_behind (Choice dir)) xs) ≡ all_marked dir (all_chosen ways xs)
marks_each ways dir [] = refl
marks_each {C = C} ways dir (x ∷ xs) = ap (λ (ms : List (Measure C (List Dir))). marked dir (chosen ways x) ∷ ms) (marks_each ways dir xs)

pub planned_append : {C : Type 0} (ways : List How) (xs ys : List (Measure C Planned)) → all_planned ways (xs ++ ys) ≡ all_planned ways xs ++ all_planned ways ys
planned_append ways [] ys = refl
planned_append ways (x ∷ xs) ys = let rest = planned_append ways xs ys in cc

pub same_behind : {C : Type 0} (costs : Costs C) (left right : Before) (a a' b b' : List (Measure C HowId)) → a' ≡ a → b' ≡ b → pareto costs (both_behind left a' right b') ≡ pareto costs (both_behind left a right b)
same_behind {C = C} costs left right a a' b b' p q =
    ap (λ (ms : List (Measure C HowId)). pareto costs (both_behind left ms right b')) p ∙ ap (λ (ms : List (Measure C HowId)). pareto costs (both_behind left a right ms)) q

-- what stays of both lists, with the choices that are planned
pub marks_are : {C : Type 0} (costs : Costs C) (ways : List How) (one two : Dir) (a b : List (Measure C HowId)) (kept : List (Measure C Planned)) →
    kept ≡ pareto costs (both_behind (Choice one) a (Choice two) b) →
    all_planned ways kept ≡ pareto costs (all_marked one (all_chosen ways a) ++ all_marked two (all_chosen ways b))
marks_are {C = C} costs ways one two a b kept e =
    let first : List (Measure C Planned) = all_rewayed (planned_behind (Choice one)) a in
    let second : List (Measure C Planned) = all_rewayed (planned_behind (Choice two)) b in
    ap (all_planned ways) e
    ∙ (pareto_knows_no_choices costs (planned_choices ways) (first ++ second)
    ∙ ap (pareto costs) (planned_append ways first second
    ∙ (ap (λ (ms : List (Measure C (List Dir))). ms ++ all_planned ways second) (marks_each ways one a)
    ∙ ap (λ (ms : List (Measure C (List Dir))). all_marked one (all_chosen ways a) ++ ms) (marks_each ways two b))))

pub behind_are_values : {C : Type 0} (costs : Costs C) (left right : Before) (a b : List (Measure C HowId)) → EachIsValue costs a → EachIsValue costs b → EachIsValue costs (both_behind left a right b)
behind_are_values {C = C} costs left right a b u v =
    let first : List (Measure C Planned) = all_rewayed (planned_behind left) a in
    let second : List (Measure C Planned) = all_rewayed (planned_behind right) b in
    value_append costs first second (values_same costs (planned_behind left) a u) (values_same costs (planned_behind right) b v)

pub behind_is_frontier : {C : Type 0} (costs : Costs C) (laws : Lawful costs) (left right : Before) (a b : List (Measure C HowId)) (kept : List (Measure C Planned)) →
    kept ≡ pareto costs (both_behind left a right b) → EachIsValue costs a → EachIsValue costs b → IsFrontier costs kept × EachIsValue costs kept
behind_is_frontier {C = C} costs laws left right a b kept e u v =
    let values = behind_are_values costs left right a b u v in
    let both : List (Measure C Planned) = both_behind left a right b in
    (same_frontier costs kept (pareto costs both) e (pareto_is_frontier costs laws both values), same_values costs kept (pareto costs both) e (pareto_values costs both values))

pub behind_belongs : {C : Type 0} (costs : Costs C) (ways : List How) (left right : Before) (a b : List (Measure C HowId)) (kept : List (Measure C Planned)) →
    kept ≡ pareto costs (both_behind left a right b) → IsIn ways left → IsIn ways right → BelongTo ways a → BelongTo ways b → PlansBelongTo ways kept
behind_belongs {C = C} costs ways left right a b kept e i j p q =
    let first : List (Measure C Planned) = all_rewayed (planned_behind left) a in
    let second : List (Measure C Planned) = all_rewayed (planned_behind right) b in
    plans_pareto costs ways kept (first ++ second) e (plans_append ways first second (plans_behind ways left a i p) (plans_behind ways right b j q))

pub behind_shorter : {C : Type 0} (costs : Costs C) (left right : Before) (a b : List (Measure C HowId)) (kept : List (Measure C Planned)) →
    kept ≡ pareto costs (both_behind left a right b) → length kept ≤ length a + length b
behind_shorter {C = C} costs left right a b kept e =
    let first : List (Measure C Planned) = all_rewayed (planned_behind left) a in
    let second : List (Measure C Planned) = all_rewayed (planned_behind right) b in
    let same : length kept ≡ length (pareto costs (first ++ second)) = ap length e in
    let fewer : length (pareto costs (first ++ second)) ≤ length (first ++ second) = pareto-shorter costs (first ++ second) in
    let whole : length (first ++ second) ≡ length first + length second = length-append first second in
    let one : length first ≡ length a = seen-length (planned_behind left) a in
    let two : length second ≡ length b = seen-length (planned_behind right) b in
    omega arith
