-- Which measures stay doesn't depend on their choices.
use Rattle.std.proofs.Common.{◌≡◌, Bool, true, false, not, cond, List, [], ◌∷◌, ◌++◌, refl, sym, ◌∙◌, ap}
use Rattle.std.specs.Prelude.{nat_le, filter}
use Rattle.std.specs.List.{list_any}
use Rattle.rf_base_cost.specs.declared.measures.Measure.{Measure}
use Rattle.rf_base_cost.specs.Cost.{Costs}
use Rattle.rf_base_cost.specs.Pareto.{dominates, outdoes, unless_outdone, undominated, placed, by_last, pareto, rewayed, all_rewayed, EachFollows, IsFrontier, EachIsValue}

any_same : {C H K : Type 0} (costs : Costs C) (f : H → K) (m : Measure C H) (xs : List (Measure C H)) →
    list_any (λ x. outdoes costs x (rewayed f m)) (all_rewayed f xs) ≡ list_any (λ x. outdoes costs x m) xs
any_same costs f m [] = refl
any_same costs f m (x ∷ xs) = let rest = any_same costs f m xs in cc

filter_step : {C H K : Type 0} (f : H → K) (x : Measure C H) (rest : List (Measure C H)) (others : List (Measure C K))
    (b : Bool) → all_rewayed f rest ≡ others →
    all_rewayed f (cond b (x ∷ rest) rest) ≡ cond b (rewayed f x ∷ others) others
filter_step f x rest others true e = cc
filter_step f x rest others false e = e

filter_same : {C H K : Type 0} (costs : Costs C) (f : H → K) (m : Measure C H) (xs : List (Measure C H)) →
    all_rewayed f (filter (λ x. not (dominates costs m x)) xs)
    ≡ filter (λ x. not (dominates costs (rewayed f m) x)) (all_rewayed f xs)
filter_same costs f m [] = refl
filter_same {C = C} {H = H} {K = K} costs f m (x ∷ xs) =
    filter_step f x (filter (λ (v : Measure C H). not (dominates costs m v)) xs)
    (filter (λ (v : Measure C K). not (dominates costs (rewayed f m) v)) (all_rewayed f xs))
    (not (dominates costs m x)) (filter_same costs f m xs)

append_same : {C H K : Type 0} (f : H → K) (xs ys : List (Measure C H)) →
    all_rewayed f (xs ++ ys) ≡ all_rewayed f xs ++ all_rewayed f ys
append_same f [] ys = refl
append_same f (x ∷ xs) ys = let rest = append_same f xs ys in cc

unless_step : {C H K : Type 0} (f : H → K) (m : Measure C H) (b c : Bool) → b ≡ c →
    all_rewayed f (cond b [] (m ∷ [])) ≡ cond c [] (rewayed f m ∷ [])
unless_step f m true c e = cc
unless_step f m false c e = cc

undominated_same : {C H K : Type 0} (costs : Costs C) (f : H → K) (xs : List (Measure C H)) →
    all_rewayed f (undominated costs xs) ≡ undominated costs (all_rewayed f xs)
unfolding undominated
undominated_same costs f [] = refl
undominated_same {C = C} {H = H} {K = K} costs f (m ∷ xs) =
    let stays : Measure C H → Bool = λ (v : Measure C H). not (dominates costs m v) in
    let holds : Measure C K → Bool = λ (v : Measure C K). not (dominates costs (rewayed f m) v) in
    let one = append_same f (unless_outdone costs m xs) (filter stays (undominated costs xs)) in
    let two : all_rewayed f (unless_outdone costs m xs) ≡ unless_outdone costs (rewayed f m) (all_rewayed f xs) =
    unless_step f m (list_any (λ (x : Measure C H). outdoes costs x m) xs)
    (list_any (λ (x : Measure C K). outdoes costs x (rewayed f m)) (all_rewayed f xs)) (sym (any_same costs f m xs)) in
    let three = filter_same costs f m (undominated costs xs) in
    let four : filter holds (all_rewayed f (undominated costs xs))
    ≡ filter holds (undominated costs (all_rewayed f xs)) = ap (filter holds) (undominated_same costs f xs) in
    cc

placed_step : {C H K : Type 0} (f : H → K) (m x : Measure C H) (rest more : List (Measure C H))
    (others : List (Measure C K)) (b : Bool) → all_rewayed f more ≡ others →
    all_rewayed f (cond b (m ∷ x ∷ rest) (x ∷ more))
    ≡ cond b (rewayed f m ∷ rewayed f x ∷ all_rewayed f rest) (rewayed f x ∷ others)
placed_step f m x rest more others true e = refl
placed_step f m x rest more others false e = cc

placed_same : {C H K : Type 0} (f : H → K) (m : Measure C H) (xs : List (Measure C H)) →
    all_rewayed f (placed m xs) ≡ placed (rewayed f m) (all_rewayed f xs)
unfolding placed
placed_same f m [] = refl
placed_same f m (x ∷ xs) =
    placed_step f m x xs (placed m xs) (placed (rewayed f m) (all_rewayed f xs)) (nat_le x.last m.last)
    (placed_same f m xs)

by_last_same : {C H K : Type 0} (f : H → K) (xs : List (Measure C H)) →
    all_rewayed f (by_last xs) ≡ by_last (all_rewayed f xs)
unfolding by_last
by_last_same f [] = refl
by_last_same f (x ∷ xs) = placed_same f x (by_last xs) ∙ ap (placed (rewayed f x)) (by_last_same f xs)

pub pareto_knows_no_choices : {C H K : Type 0} (costs : Costs C) (f : H → K) (xs : List (Measure C H)) →
    all_rewayed f (pareto costs xs) ≡ pareto costs (all_rewayed f xs)
unfolding pareto
pareto_knows_no_choices costs f xs = by_last_same f (undominated costs xs) ∙ ap by_last (undominated_same costs f xs)

follows_same : {C H K : Type 0} (costs : Costs C) (f : H → K) (m : Measure C H) (xs : List (Measure C H)) →
    EachFollows costs m xs → EachFollows costs (rewayed f m) (all_rewayed f xs)
unfolding EachFollows
follows_same costs f m [] h = tt
follows_same costs f m (x ∷ xs) h = (h.0, h.1, follows_same costs f m xs h.2)

-- a frontier stays one whatever its choices
pub frontier_same : {C H K : Type 0} (costs : Costs C) (f : H → K) (xs : List (Measure C H)) → IsFrontier costs xs →
    IsFrontier costs (all_rewayed f xs)
unfolding IsFrontier
frontier_same costs f [] h = tt
frontier_same costs f (x ∷ xs) h = (follows_same costs f x xs h.0, frontier_same costs f xs h.1)

pub values_same : {C H K : Type 0} (costs : Costs C) (f : H → K) (xs : List (Measure C H)) → EachIsValue costs xs →
    EachIsValue costs (all_rewayed f xs)
unfolding EachIsValue
values_same costs f [] h = tt
values_same costs f (x ∷ xs) h = (h.0, values_same costs f xs h.1)

follows_back : {C H K : Type 0} (costs : Costs C) (f : H → K) (m : Measure C H) (xs : List (Measure C H)) →
    EachFollows costs (rewayed f m) (all_rewayed f xs) → EachFollows costs m xs
unfolding EachFollows
follows_back costs f m [] h = tt
follows_back costs f m (x ∷ xs) h = (h.0, h.1, follows_back costs f m xs h.2)

pub frontier_back : {C H K : Type 0} (costs : Costs C) (f : H → K) (xs : List (Measure C H)) →
    IsFrontier costs (all_rewayed f xs) → IsFrontier costs xs
unfolding IsFrontier
frontier_back costs f [] h = tt
frontier_back costs f (x ∷ xs) h = (follows_back costs f x xs h.0, frontier_back costs f xs h.1)

pub values_back : {C H K : Type 0} (costs : Costs C) (f : H → K) (xs : List (Measure C H)) →
    EachIsValue costs (all_rewayed f xs) → EachIsValue costs xs
unfolding EachIsValue
values_back costs f [] h = tt
values_back costs f (x ∷ xs) h = (h.0, values_back costs f xs h.1)
