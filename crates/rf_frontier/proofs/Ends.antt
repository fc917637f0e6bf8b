-- One more measure behind a frontier, from its end.
use Rattle.std.proofs.Common.{◌≡◌, ℕ, suc, ◌-◌, ◌<◌, true, false, List, [], ◌∷◌, ◌++◌, length, take, Some, refl, sym, ◌∙◌, ap, subst, inl, append_assoc, arith}
use Rattle.std.specs.Prelude.{slice_get}
use Rattle.std.proofs.Math.Seq.{take-length}
use Rattle.rf_base_cost.specs.declared.measures.Measure.{Measure}
use Rattle.rf_base_cost.specs.Cost.{Costs, IsValue, Lawful}
use Rattle.rf_base_cost.specs.Pareto.{pareto, IsMember, EachFollows, IsFrontier, EachIsValue}
use Rattle.rf_base_cost.proofs.Members.{value_append}
use Rattle.rf_base_cost.proofs.Pareto.{frontier_is_pareto, pareto_by_parts, drop_outdone}
use Rattle.rf_frontier.proofs.Cuts.{take_at}
use Rattle.rf_frontier.proofs.Results.{one_ordered, one_value}
use Rattle.rf_frontier.proofs.Steps.{not_at_most, shorter_outdoes, same_frontier, same_values}

-- the list without its last
abbrev front : {A : Type 0} → List A → List A
front xs = take (length xs - 1) xs

-- the last of a list stands behind the others
split_last : {A : Type 0} (size : ℕ) (xs : List A) (x : A) → size ≡ length xs → 0 < length xs → slice_get xs (size - 1) ≡ Some x → xs ≡ front xs ++ x ∷ []
split_last {A = A} size xs x e some is =
    let one : size - 1 ≡ length xs - 1 = omega arith in
    let all : length xs ≡ suc (length xs - 1) = omega arith in
    sym (take-length xs)
    ∙ (ap (λ (k : ℕ). take k xs) all ∙ take_at (length xs - 1) xs x (subst (λ (k : ℕ). slice_get xs k ≡ Some x) one is))

-- both parts of a list of values are values
values_parts : {C H : Type 0} (costs : Costs C) (xs ys : List (Measure C H)) → EachIsValue costs (xs ++ ys) → EachIsValue costs xs × EachIsValue costs ys
unfolding EachIsValue
values_parts costs [] ys v = (tt, v)
values_parts costs (x ∷ xs) ys v = let rest = values_parts costs xs ys v.1 in ((v.0, rest.0), rest.1)

-- those in front of others follow m too
follows_front : {C H : Type 0} (costs : Costs C) (m : Measure C H) (xs ys : List (Measure C H)) → EachFollows costs m (xs ++ ys) → EachFollows costs m xs
unfolding EachFollows
follows_front costs m [] ys f = tt
follows_front costs m (x ∷ xs) ys f = (f.0, f.1, follows_front costs m xs ys f.2)

-- the front of a frontier is one
frontier_front : {C H : Type 0} (costs : Costs C) (xs ys : List (Measure C H)) → IsFrontier costs (xs ++ ys) → IsFrontier costs xs
unfolding IsFrontier
frontier_front costs [] ys f = tt
frontier_front costs (x ∷ xs) ys f = (follows_front costs x xs ys f.0, frontier_front costs xs ys f.1)

-- what follows the last measure follows those in front of it
follows_behind : {C H : Type 0} (costs : Costs C) (laws : Lawful costs) (x m k : Measure C H) (xs : List (Measure C H)) → IsValue costs x.cost → IsValue costs m.cost → IsValue costs k.cost →
    k.last < m.last → costs.le k.cost m.cost ≡ false → EachFollows costs x (xs ++ m ∷ []) → EachFollows costs x (xs ++ m ∷ k ∷ [])
unfolding EachFollows
follows_behind costs laws x m k [] u v w less dear f =
    let near : m.last < x.last = f.0 in
    (near, f.1, (omega arith, not_at_most costs laws k.cost m.cost x.cost w v u dear f.1, tt))
follows_behind costs laws x m k (y ∷ xs) u v w less dear f = (f.0, f.1, follows_behind costs laws x m k xs u v w less dear f.2)

-- a measure that ends further left than the last of a frontier and costs more comes behind it
frontier_behind : {C H : Type 0} (costs : Costs C) (laws : Lawful costs) (m k : Measure C H) (xs : List (Measure C H)) → EachIsValue costs xs → IsValue costs m.cost → IsValue costs k.cost →
    k.last < m.last → costs.le k.cost m.cost ≡ false → IsFrontier costs (xs ++ m ∷ []) → IsFrontier costs (xs ++ m ∷ k ∷ [])
unfolding IsFrontier EachIsValue EachFollows
frontier_behind costs laws m k [] u v w less dear f = ((less, dear, tt), (tt, tt))
frontier_behind costs laws m k (x ∷ xs) u v w less dear f =
    (follows_behind costs laws x m k xs u.0 v w less dear f.0, frontier_behind costs laws m k xs u.1 v w less dear f.1)

-- the last measure, which k outdoes, goes
end_goes : {C H : Type 0} (costs : Costs C) (laws : Lawful costs) (m k : Measure C H) (xs : List (Measure C H)) → EachIsValue costs xs → IsValue costs m.cost → IsValue costs k.cost →
    k.last < m.last → costs.le k.cost m.cost ≡ true → pareto costs (xs ++ m ∷ k ∷ []) ≡ pareto costs (xs ++ k ∷ [])
unfolding EachIsValue IsMember
end_goes {C = C} {H = H} costs laws m k xs u v w less cheap =
    let one : pareto costs (m ∷ k ∷ []) ≡ pareto costs (k ∷ []) =
    drop_outdone costs laws m k (k ∷ []) (v, (w, tt)) (inl refl) (shorter_outdoes costs m k less cheap) in
    sym (pareto_by_parts costs laws xs (m ∷ k ∷ []) u (v, (w, tt)))
    ∙ (ap (λ (ms : List (Measure C H)). pareto costs (pareto costs xs ++ ms)) one ∙ pareto_by_parts costs laws xs (k ∷ []) u (w, tt))

-- what is known of the last measure of a frontier of values
abbrev pub EndOf : {C H : Type 0} → Costs C → List (Measure C H) → Measure C H → Type 0
EndOf costs list m = (list ≡ front list ++ m ∷ []) × IsFrontier costs (front list) × EachIsValue costs (front list) × IsValue costs m.cost

-- each frontier of values has such an end, where it has a measure
pub end_of : {C H : Type 0} (costs : Costs C) (list : List (Measure C H)) (size : ℕ) (m : Measure C H) → size ≡ length list → 0 < length list → slice_get list (size - 1) ≡ Some m →
    IsFrontier costs list → EachIsValue costs list → EndOf costs list m
unfolding EachIsValue
end_of costs list size m e some is f v =
    let split = split_last size list m e some is in
    let parts = values_parts costs (front list) (m ∷ []) (same_values costs (front list ++ m ∷ []) list (sym split) v) in
    (split, frontier_front costs (front list) (m ∷ []) (same_frontier costs (front list ++ m ∷ []) list (sym split) f), parts.0, parts.1.0)

-- what is in front of the last measure is a frontier of values
pub front_of : {C H : Type 0} (costs : Costs C) (list rest : List (Measure C H)) (m : Measure C H) → EndOf costs list m → rest ≡ front list → IsFrontier costs rest × EachIsValue costs rest
front_of costs list rest m end is = (same_frontier costs rest (front list) is end.1, same_values costs rest (front list) is end.2)

-- with k behind it the list ends with its last measure and k
two_behind : {C H : Type 0} (costs : Costs C) (list : List (Measure C H)) (m k : Measure C H) → EndOf costs list m → list ++ k ∷ [] ≡ front list ++ m ∷ k ∷ []
two_behind {C = C} {H = H} costs list m k end = ap (λ (ms : List (Measure C H)). ms ++ k ∷ []) end.0 ∙ append_assoc (front list) (m ∷ []) (k ∷ [])

-- the list with k behind it is what is kept
pub kept_behind : {C H : Type 0} (costs : Costs C) (laws : Lawful costs) (list kept : List (Measure C H)) (m k : Measure C H) → EndOf costs list m → IsFrontier costs list → IsValue costs k.cost →
    k.last < m.last → costs.le k.cost m.cost ≡ false → kept ≡ list ++ k ∷ [] → kept ≡ pareto costs (list ++ k ∷ [])
unfolding EachIsValue
kept_behind costs laws list kept m k end f w less dear is =
    let two = two_behind costs list m k end in
    let ends : IsFrontier costs (front list ++ m ∷ []) = same_frontier costs (front list ++ m ∷ []) list (sym end.0) f in
    let all = frontier_behind costs laws m k (front list) end.2 end.3 w less dear ends in
    let values = value_append costs (front list) (m ∷ k ∷ []) end.2 (end.3, (w, tt)) in
    is ∙ (two ∙ (sym (frontier_is_pareto costs laws (front list ++ m ∷ k ∷ []) values all) ∙ ap (pareto costs) (sym two)))

-- the list without its last measure, which k outdoes, comes to the same
pub end_dropped : {C H : Type 0} (costs : Costs C) (laws : Lawful costs) (list rest : List (Measure C H)) (m k : Measure C H) → EndOf costs list m → IsValue costs k.cost →
    k.last < m.last → costs.le k.cost m.cost ≡ true → rest ≡ front list → pareto costs (rest ++ k ∷ []) ≡ pareto costs (list ++ k ∷ [])
end_dropped {C = C} {H = H} costs laws list rest m k end w less cheap is =
    ap (λ (ms : List (Measure C H)). pareto costs (ms ++ k ∷ [])) is
    ∙ (sym (end_goes costs laws m k (front list) end.2 end.3 w less cheap) ∙ ap (pareto costs) (sym (two_behind costs list m k end)))

-- nothing is left of the list but k
pub alone_behind : {C H : Type 0} (costs : Costs C) (laws : Lawful costs) (list kept whole : List (Measure C H)) (k : Measure C H) → length list ≡ 0 → IsValue costs k.cost →
    kept ≡ k ∷ [] → pareto costs (list ++ k ∷ []) ≡ whole → kept ≡ whole
alone_behind costs laws (x ∷ xs) kept whole k none w is so_far = absurd (omega arith)
alone_behind costs laws [] kept whole k none w is so_far =
    is ∙ (sym (frontier_is_pareto costs laws (k ∷ []) (one_value (k ∷ []) k refl costs w) (one_ordered (k ∷ []) k refl costs)) ∙ so_far)
