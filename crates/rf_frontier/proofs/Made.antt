-- Ways that are planned, and made later.
use Rattle.std.proofs.Common.{◌≡◌, ◌<◌, List, [], ◌∷◌, ◌++◌, length, drop, get_or, refl, sym, ◌∙◌, ap, subst, inl, inr, append_assoc, append-nil, arith}
use Rattle.rf_base_document.specs.declared.directions.Dir.{Dir}
use Rattle.rf_base_cost.specs.declared.measures.Measure.{Measure}
use Rattle.rf_base_cost.specs.Cost.{Costs}
use Rattle.rf_base_cost.specs.Pareto.{rewayed, all_rewayed, pareto, IsMember, IsFrontier, EachIsValue}
use Rattle.rf_base_cost.proofs.Pareto.{pareto_keeps_members}
use Rattle.rf_base_cost.proofs.Choices.{frontier_same, frontier_back, values_same, values_back}
use Rattle.rf_frontier.specs.declared.hows.How.{How}
use Rattle.rf_frontier.specs.declared.hows.HowId.{HowId}
use Rattle.rf_frontier.specs.declared.before.Before.{Before}
use Rattle.rf_frontier.specs.declared.views.Planned.{Planned}
use Rattle.rf_frontier.specs.Ways.{choices_of, KeepsWays, IsIn, choices_before}
use Rattle.rf_frontier.specs.Frontiers.{chosen, all_chosen, BelongTo}
use Rattle.rf_frontier.specs.Plans.{planned_behind, planned_choices, all_planned, PlanIsIn, PlansBelongTo}
use Rattle.rf_frontier.proofs.Ways.{keeps_choices, keeps_length, keeps_then}
use Rattle.rf_frontier.proofs.Behind.{belong_keeps, chosen_keeps, chosen_append, belong_append, same_belong, in_keeps, before_keeps}
use Rattle.rf_frontier.proofs.Steps.{same_frontier, same_values}

-- the planned way of the first measure is made of these ways
pub plan_at : {C : Type 0} (ways : List How) (xs : List (Measure C Planned)) (m : Measure C Planned) → PlansBelongTo ways xs → 0 < length xs → m ≡ get_or xs 0 m → PlanIsIn ways m.how
unfolding PlansBelongTo
plan_at ways [] m b p e = absurd (omega arith)
plan_at {C = C} ways (x ∷ xs) m b p e = subst (λ (v : Measure C Planned). PlanIsIn ways v.how) (sym e) b.0

pub plan_keeps : (old new : List How) (plan : Planned) → KeepsWays old new → PlanIsIn old plan → PlanIsIn new plan
plan_keeps old new plan k p = let longer = keeps_length old new k in (in_keeps old new plan.before k p.0, omega (arith, p.1))

-- what a plan is to unfold to stays
pub planned_keeps : (old new : List How) (plan : Planned) → KeepsWays old new → PlanIsIn old plan → planned_choices new plan ≡ planned_choices old plan
planned_keeps old new plan k p =
    let first : choices_before new plan.before ≡ choices_before old plan.before = before_keeps old new plan.before k p.0 in
    let second : choices_of new plan.how.0 ≡ choices_of old plan.how.0 = keeps_choices old new plan.how.0 k p.1 in
    ap (λ (cs : List Dir). cs ++ choices_of new plan.how.0) first ∙ ap (λ (cs : List Dir). choices_before old plan.before ++ cs) second

pub plans_rest : {C : Type 0} (ways : List How) (xs rest : List (Measure C Planned)) → rest ≡ drop 1 xs → PlansBelongTo ways xs → PlansBelongTo ways rest
unfolding PlansBelongTo
plans_rest {C = C} ways [] rest e b = subst (λ (ms : List (Measure C Planned)). PlansBelongTo ways ms) (sym e) tt
plans_rest {C = C} ways (x ∷ xs) rest e b = subst (λ (ms : List (Measure C Planned)). PlansBelongTo ways ms) (sym e) b.1

-- what is done of the loop over planned ways
abbrev pub Making : {C : Type 0} → List How → List How → List (Measure C HowId) → List (Measure C Planned) → List (Measure C Planned) → Type 0
Making old now made left whole =
    (all_chosen now made ++ all_planned old left ≡ all_planned old whole) × BelongTo now made × PlansBelongTo old left × KeepsWays old now

planned_first : {C : Type 0} (ways : List How) (xs rest : List (Measure C Planned)) (m : Measure C Planned) → 0 < length xs → m ≡ get_or xs 0 m → rest ≡ drop 1 xs →
    all_planned ways xs ≡ rewayed (planned_choices ways) m ∷ all_planned ways rest
planned_first ways [] rest m p e d = absurd (omega arith)
planned_first {C = C} ways (x ∷ xs) rest m p e d =
    ap (λ (v : Measure C Planned). rewayed (planned_choices ways) v ∷ all_planned ways xs) (sym e)
    ∙ ap (λ (ms : List (Measure C Planned)). rewayed (planned_choices ways) m ∷ all_planned ways ms) (sym d)

-- one turn of the loop
pub make_turn : {C : Type 0} (old now new : List How) (made after : List (Measure C HowId)) (left rest whole : List (Measure C Planned)) (m : Measure C Planned) (n : Measure C HowId) (how : HowId) →
    Making old now made left whole → 0 < length left → m ≡ get_or left 0 m → rest ≡ drop 1 left → KeepsWays now new → how.0 < length new →
    choices_of new how.0 ≡ planned_choices now m.how → n ≡ record { last = m.last; cost = m.cost; how = how } → after ≡ made ++ n ∷ [] → Making old new after rest whole
unfolding BelongTo
make_turn {C = C} old now new made after left rest whole m n how r p e d k q c f a =
    let plan : PlanIsIn old m.how = plan_at old left m r.2 p e in
    let choices : choices_of new how.0 ≡ planned_choices old m.how = c ∙ planned_keeps old now m.how r.3 plan in
    let head : chosen new n ≡ rewayed (planned_choices old) m =
    ap (chosen new) f ∙ ap (λ (cs : List Dir). let v : Measure C (List Dir) = record { last = m.last; cost = m.cost; how = cs } in v) choices in
    let in_new : n.how.0 < length new = subst (λ (v : Measure C HowId). v.how.0 < length new) (sym f) q in
    let one : all_chosen new after ≡ all_chosen new made ++ (chosen new n ∷ []) = ap (all_chosen new) a ∙ chosen_append new made (n ∷ []) in
    let two : all_chosen new made ++ (chosen new n ∷ []) ≡ all_chosen now made ++ (rewayed (planned_choices old) m ∷ []) =
    ap (λ (ms : List (Measure C (List Dir))). ms ++ (chosen new n ∷ [])) (chosen_keeps now new made k r.1)
    ∙ ap (λ (v : Measure C (List Dir)). all_chosen now made ++ (v ∷ [])) head in
    let three : (all_chosen now made ++ (rewayed (planned_choices old) m ∷ [])) ++ all_planned old rest ≡ all_chosen now made ++ all_planned old left =
    append_assoc (all_chosen now made) (rewayed (planned_choices old) m ∷ []) (all_planned old rest)
    ∙ ap (λ (ms : List (Measure C (List Dir))). all_chosen now made ++ ms) (sym (planned_first old left rest m p e d)) in (
      ap (λ (ms : List (Measure C (List Dir))). ms ++ all_planned old rest) (one ∙ two) ∙ (three ∙ r.0),
      same_belong new after (made ++ n ∷ []) a (belong_append new made (n ∷ []) (belong_keeps now new made k r.1) (in_new, tt)),
      plans_rest old left rest d r.2,
      keeps_then old now new r.3 k,
    )

pub make_begins : {C : Type 0} (old : List How) (made : List (Measure C HowId)) (whole : List (Measure C Planned)) → made ≡ [] → PlansBelongTo old whole → KeepsWays old old → Making old old made whole whole
unfolding BelongTo
make_begins {C = C} old made whole e b k =
    let none : List (Measure C HowId) = [] in
    (ap (λ (ms : List (Measure C HowId)). all_chosen old ms ++ all_planned old whole) e, same_belong old made none e tt, b, k)

pub make_ends : {C : Type 0} (old now : List How) (made : List (Measure C HowId)) (left whole : List (Measure C Planned)) → length left ≡ 0 → Making old now made left whole →
    all_chosen now made ≡ all_planned old whole
make_ends old now made [] whole p r = sym (append-nil (all_chosen now made)) ∙ r.0
make_ends old now made (x ∷ left) whole p r = absurd (omega arith)

-- a frontier whose ways were planned
pub made_ordered : {C : Type 0} (old new : List How) (planned : List (Measure C Planned)) (f : List (Measure C HowId)) → all_chosen new f ≡ all_planned old planned →
    (costs : Costs C) → IsFrontier costs planned → IsFrontier costs f
made_ordered old new planned f e costs p =
    frontier_back costs (λ (id : HowId). choices_of new id.0) f
    (same_frontier costs (all_chosen new f) (all_planned old planned) e (frontier_same costs (planned_choices old) planned p))

pub made_values : {C : Type 0} (old new : List How) (planned : List (Measure C Planned)) (f : List (Measure C HowId)) → all_chosen new f ≡ all_planned old planned →
    (costs : Costs C) → EachIsValue costs planned → EachIsValue costs f
made_values old new planned f e costs p =
    values_back costs (λ (id : HowId). choices_of new id.0) f
    (same_values costs (all_chosen new f) (all_planned old planned) e (values_same costs (planned_choices old) planned p))

plans_member : {C : Type 0} (ways : List How) (xs : List (Measure C Planned)) (z : Measure C Planned) → PlansBelongTo ways xs → IsMember z xs → PlanIsIn ways z.how
unfolding PlansBelongTo IsMember
plans_member ways [] z b h = absurd h
plans_member {C = C} ways (x ∷ xs) z b (inl e) = subst (λ (v : Measure C Planned). PlanIsIn ways v.how) (sym e) b.0
plans_member ways (x ∷ xs) z b (inr h) = plans_member ways xs z b.1 h

plans_from : {C : Type 0} (ways : List How) (xs : List (Measure C Planned)) → ((z : Measure C Planned) → IsMember z xs → PlanIsIn ways z.how) → PlansBelongTo ways xs
unfolding PlansBelongTo IsMember
plans_from ways [] f = tt
plans_from ways (x ∷ xs) f = (f x (inl refl), plans_from ways xs (λ z h. f z (inr h)))

-- what stays of a list has plans that belong where those of the list do
pub plans_pareto : {C : Type 0} (costs : Costs C) (ways : List How) (f xs : List (Measure C Planned)) → f ≡ pareto costs xs → PlansBelongTo ways xs → PlansBelongTo ways f
plans_pareto {C = C} costs ways f xs e b =
    subst (λ (ms : List (Measure C Planned)). PlansBelongTo ways ms) (sym e)
    (plans_from ways (pareto costs xs) (λ z h. plans_member ways xs z b (pareto_keeps_members costs xs z h)))

pub plans_append : {C : Type 0} (ways : List How) (xs ys : List (Measure C Planned)) → PlansBelongTo ways xs → PlansBelongTo ways ys → PlansBelongTo ways (xs ++ ys)
unfolding PlansBelongTo
plans_append ways [] ys p q = q
plans_append ways (x ∷ xs) ys p q = (p.0, plans_append ways xs ys p.1 q)

-- what comes before the ways of measures, and those ways, are of the ways
pub plans_behind : {C : Type 0} (ways : List How) (before : Before) (xs : List (Measure C HowId)) → IsIn ways before → BelongTo ways xs → PlansBelongTo ways (all_rewayed (planned_behind before) xs)
unfolding BelongTo PlansBelongTo
plans_behind ways before [] i b = tt
plans_behind ways before (x ∷ xs) i b = ((i, b.0), plans_behind ways before xs i b.1)

-- the plan of the only measure
pub only_plan : {C : Type 0} (ways : List How) (xs : List (Measure C Planned)) (m : Measure C Planned) → xs ≡ m ∷ [] → PlansBelongTo ways xs → PlanIsIn ways m.how
unfolding PlansBelongTo
only_plan {C = C} ways xs m e b = (subst (λ (ms : List (Measure C Planned)). PlansBelongTo ways ms) e b).0

-- one item in a vector that was empty
pub one_item : {A : Type 0} (before after : List A) (x : A) → before ≡ [] → after ≡ before ++ x ∷ [] → after ≡ x ∷ []
one_item {A = A} before after x e a = a ∙ ap (λ (xs : List A). xs ++ x ∷ []) e
