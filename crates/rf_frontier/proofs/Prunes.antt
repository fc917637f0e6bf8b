-- One more measure in front of a frontier.
use Rattle.std.proofs.Common.{◌≡◌, ℕ, zero, suc, ◌+◌, ◌<◌, ◌≤◌, true, false, List, [], ◌∷◌, ◌++◌, length, drop, get_or, reverse, refl, sym, ◌∙◌, ap, subst, inl, inr, arith}
use Rattle.std.proofs.lemmas.List.{reverse-append, drop_all}
use Rattle.std.proofs.lemmas.Bool.{cases_Bool}
use Rattle.rf_base_cost.specs.declared.measures.Measure.{Measure}
use Rattle.rf_base_cost.specs.Cost.{Costs, IsValue, Lawful}
use Rattle.rf_base_cost.specs.Pareto.{outdoes, undominated, by_last, pareto, IsMember, EachFollows, IsFrontier, EachIsValue, NoneFurther, NeverRises}
use Rattle.rf_base_cost.proofs.Dominance.{true_not_false, dominates-from}
use Rattle.rf_base_cost.proofs.Pareto.{pareto_keeps_members, pareto_values, pareto_is_frontier, frontier_is_pareto, pareto_by_parts, drop_dominated, drop_outdone}
use Rattle.rf_frontier.proofs.Steps.{not_at_most, cheaper_outdoes}
use Rattle.rf_frontier.proofs.Pairs.{one_is}

-- what follows the held measure follows m too, where m ends no further left and costs no more or ends further right and
-- costs less
follows_too : {C H : Type 0} (costs : Costs C) (laws : Lawful costs) (m h : Measure C H) (xs : List (Measure C H)) → IsValue costs m.cost → IsValue costs h.cost → EachIsValue costs xs →
    h.last ≤ m.last → EachFollows costs h xs → ((z : Measure C H) → IsValue costs z.cost → costs.le z.cost h.cost ≡ false → costs.le z.cost m.cost ≡ false) → EachFollows costs m xs
unfolding EachFollows EachIsValue
follows_too costs laws m h [] u v w p f g = tt
follows_too costs laws m h (x ∷ xs) u v w p f g =
    let less : x.last < h.last = f.0 in
    (omega arith, g x w.0 f.1, follows_too costs laws m h xs u v w.1 p f.2 g)

-- at one last column, the cheaper or equal measure takes the held one's place
pub takes_place : {C H : Type 0} (costs : Costs C) (laws : Lawful costs) (m h : Measure C H) (xs : List (Measure C H)) → IsValue costs m.cost → EachIsValue costs (h ∷ xs) → IsFrontier costs (h ∷ xs) →
    m.last ≡ h.last → costs.le m.cost h.cost ≡ true → m ∷ xs ≡ pareto costs (m ∷ h ∷ xs)
unfolding EachIsValue IsFrontier IsMember
takes_place {C = C} {H = H} costs laws m h xs u v f e less =
    let gone : pareto costs (m ∷ h ∷ xs) ≡ pareto costs (m ∷ xs) =
    drop_dominated costs laws (m ∷ []) xs m h (u, tt) v (inl refl) (dominates-from costs m h (omega arith) less) in
    let follows : EachFollows costs m xs = follows_too costs laws m h xs u v.0 v.1 (omega arith) f.0
    (λ z w dear. elim (cases_Bool (costs.le z.cost m.cost)) [
      | inr k ↦ k
      | inl k ↦ true_not_false (costs.le z.cost h.cost) (laws.transitive z.cost m.cost h.cost w u v.0 k less) dear
    ]) in
    sym (gone ∙ frontier_is_pareto costs laws (m ∷ xs) (u, v.1) (follows, f.1))

-- a measure that the held one outdoes goes
pub stays_held : {C H : Type 0} (costs : Costs C) (laws : Lawful costs) (m h : Measure C H) (xs : List (Measure C H)) → IsValue costs m.cost → EachIsValue costs (h ∷ xs) → IsFrontier costs (h ∷ xs) →
    outdoes costs h m ≡ true → h ∷ xs ≡ pareto costs (m ∷ h ∷ xs)
unfolding EachIsValue IsMember
stays_held costs laws m h xs u v f o =
    sym (drop_outdone costs laws m h (h ∷ xs) (u, v) (inl refl) o ∙ frontier_is_pareto costs laws (h ∷ xs) v f)

-- a measure that ends further right and costs less comes in front
pub comes_in_front : {C H : Type 0} (costs : Costs C) (laws : Lawful costs) (m h : Measure C H) (xs : List (Measure C H)) → IsValue costs m.cost → EachIsValue costs (h ∷ xs) → IsFrontier costs (h ∷ xs) →
    h.last < m.last → costs.le h.cost m.cost ≡ false → m ∷ h ∷ xs ≡ pareto costs (m ∷ h ∷ xs)
unfolding EachIsValue IsFrontier EachFollows
comes_in_front costs laws m h xs u v f less dear =
    let follows : EachFollows costs m xs = follows_too costs laws m h xs u v.0 v.1 (omega arith) f.0
    (λ z w d. not_at_most costs laws z.cost h.cost m.cost w v.0 u d dear) in
    sym (frontier_is_pareto costs laws (m ∷ h ∷ xs) (u, v) ((less, dear, follows), f))

pub held_outdoes : {C H : Type 0} (costs : Costs C) (laws : Lawful costs) (m h : Measure C H) → IsValue costs m.cost → IsValue costs h.cost → m.last ≡ h.last →
    costs.le m.cost h.cost ≡ false → outdoes costs h m ≡ true
held_outdoes costs laws m h u v e dear = cheaper_outdoes costs laws m h u v (omega arith) dear

pub pushed_round : {A : Type 0} (xs ys : List A) (h : A) → ys ≡ xs ++ h ∷ [] → reverse ys ≡ h ∷ reverse xs
pushed_round {A = A} xs ys h e = ap reverse e ∙ reverse-append xs (h ∷ [])

further_member : {C H : Type 0} (m z : Measure C H) (xs : List (Measure C H)) → NoneFurther m xs → IsMember z xs → z.last ≤ m.last
unfolding NoneFurther IsMember
further_member m z [] p h = absurd h
further_member {C = C} {H = H} m z (x ∷ xs) p (inl e) = subst (λ (v : Measure C H). v.last ≤ m.last) (sym e) p.0
further_member m z (x ∷ xs) p (inr h) = further_member m z xs p.1 h

never_rises-drop : {C H : Type 0} (xs : List (Measure C H)) (n : ℕ) → NeverRises xs → NeverRises (drop n xs)
unfolding NeverRises
never_rises-drop [] zero h = h
never_rises-drop [] (suc n) h = h
never_rises-drop (x ∷ xs) zero h = h
never_rises-drop (x ∷ xs) (suc n) h = never_rises-drop xs n h.1

values-drop : {C H : Type 0} (costs : Costs C) (xs : List (Measure C H)) (n : ℕ) → EachIsValue costs xs → EachIsValue costs (drop n xs)
unfolding EachIsValue
values-drop costs [] zero h = h
values-drop costs [] (suc n) h = h
values-drop costs (x ∷ xs) zero h = h
values-drop costs (x ∷ xs) (suc n) h = values-drop costs xs n h.1

cons_drop : {A : Type 0} (xs : List A) (n : ℕ) (m : A) → n < length xs → m ≡ get_or xs n m → drop n xs ≡ m ∷ drop (suc n) xs
cons_drop [] n m p e = absurd (omega arith)
cons_drop {A = A} (x ∷ xs) zero m p e = ap (λ (y : A). y ∷ xs) (sym e)
cons_drop (x ∷ xs) (suc n) m p e = cons_drop xs n m (omega arith) e

-- what a turn of the loop leaves: the held measure and those behind it are the frontier of the end of the list
abbrev pub Pruning : {C H : Type 0} → Costs C → Measure C H → List (Measure C H) → List (Measure C H) → ℕ → Type 0
Pruning costs held behind list at = held ∷ reverse behind ≡ pareto costs (drop at list)

pub pruned_is : {C H : Type 0} (costs : Costs C) (laws : Lawful costs) (held : Measure C H) (behind list : List (Measure C H)) (at : ℕ) → EachIsValue costs list → Pruning costs held behind list at →
    IsFrontier costs (held ∷ reverse behind) × EachIsValue costs (held ∷ reverse behind)
pruned_is {C = C} {H = H} costs laws held behind list at v e =
    let values = values-drop costs list at v in (
      subst (λ (ms : List (Measure C H)). IsFrontier costs ms) (sym e) (pareto_is_frontier costs laws (drop at list) values),
      subst (λ (ms : List (Measure C H)). EachIsValue costs ms) (sym e) (pareto_values costs (drop at list) values),
    )

-- the held measure ends no further right than the next one
pub held_left : {C H : Type 0} (costs : Costs C) (held m : Measure C H) (behind list : List (Measure C H)) (at : ℕ) → NeverRises list → Pruning costs held behind list (suc at) →
    at < length list → m ≡ get_or list at m → held.last ≤ m.last
unfolding NeverRises IsMember
held_left {C = C} {H = H} costs held m behind list at r e p is =
    let whole : NeverRises (m ∷ drop (suc at) list) = subst (λ (ms : List (Measure C H)). NeverRises ms) (cons_drop list at m p is) (never_rises-drop list at r) in
    let member : IsMember held (pareto costs (drop (suc at) list)) = subst (λ (ms : List (Measure C H)). IsMember held ms) e (inl refl) in
    further_member m held (drop (suc at) list) whole.0 (pareto_keeps_members costs (drop (suc at) list) held member)

-- one turn of the loop
pub prune_turn : {C H : Type 0} (costs : Costs C) (laws : Lawful costs) (held new m : Measure C H) (behind behind_new list : List (Measure C H)) (at : ℕ) → EachIsValue costs list →
    at < length list → m ≡ get_or list at m → IsValue costs m.cost → Pruning costs held behind list (suc at) →
    new ∷ reverse behind_new ≡ pareto costs (m ∷ held ∷ reverse behind) → Pruning costs new behind_new list at
unfolding EachIsValue
prune_turn {C = C} {H = H} costs laws held new m behind behind_new list at v p is u was settled =
    let values = values-drop costs list (suc at) v in
    let parts : pareto costs (pareto costs (m ∷ []) ++ pareto costs (drop (suc at) list)) ≡ pareto costs (m ∷ drop (suc at) list) =
    pareto_by_parts costs laws (m ∷ []) (drop (suc at) list) (u, tt) values in
    settled
    ∙ (ap (λ (ms : List (Measure C H)). pareto costs (m ∷ ms)) was
    ∙ (ap (λ (ms : List (Measure C H)). pareto costs (ms ++ pareto costs (drop (suc at) list))) (sym (one_is costs laws m u))
    ∙ (parts ∙ ap (pareto costs) (sym (cons_drop list at m p is)))))

-- the loop begins with the last measure
pub prune_begins : {C H : Type 0} (costs : Costs C) (laws : Lawful costs) (held : Measure C H) (list : List (Measure C H)) (at : ℕ) → EachIsValue costs list → at + 1 ≡ length list →
    held ≡ get_or list at held → IsValue costs held.cost → held ∷ reverse [] ≡ pareto costs (drop at list)
prune_begins {C = C} {H = H} costs laws held list at v e is u =
    let none : drop (suc at) list ≡ [] = drop_all (suc at) list (omega arith) in
    let one : drop at list ≡ held ∷ [] = cons_drop list at held (omega arith) is ∙ ap (λ (ms : List (Measure C H)). held ∷ ms) none in
    sym (ap (pareto costs) one ∙ one_is costs laws held u)

-- the loop counts down
pub counted_down : {C H : Type 0} (costs : Costs C) (held : Measure C H) (behind list : List (Measure C H)) (at next : ℕ) → at ≡ suc next → Pruning costs held behind list at → Pruning costs held behind list (suc next)
counted_down costs held behind list at next e p = subst (λ (n : ℕ). Pruning costs held behind list n) e p

pub pruned_none : {C H : Type 0} (costs : Costs C) (list : List (Measure C H)) → length list ≡ 0 → [] ≡ pareto costs list
unfolding pareto undominated by_last
pruned_none costs [] p = refl
pruned_none costs (x ∷ xs) p = absurd (omega arith)

pub none_behind : {C H : Type 0} (costs : Costs C) (held : Measure C H) (behind list : List (Measure C H)) (at : ℕ) → behind ≡ [] → held ∷ reverse [] ≡ pareto costs (drop at list) → Pruning costs held behind list at
none_behind {C = C} {H = H} costs held behind list at e p = ap (λ (ms : List (Measure C H)). held ∷ reverse ms) e ∙ p

pub first_value : {C H : Type 0} (costs : Costs C) (m : Measure C H) (xs : List (Measure C H)) → EachIsValue costs (m ∷ xs) → IsValue costs m.cost
unfolding EachIsValue
first_value costs m xs v = v.0

pub in_front : {C H : Type 0} (costs : Costs C) (laws : Lawful costs) (m h : Measure C H) (behind new : List (Measure C H)) → IsValue costs m.cost → EachIsValue costs (h ∷ reverse behind) → IsFrontier costs (h ∷ reverse behind) →
    h.last < m.last → costs.le h.cost m.cost ≡ false → new ≡ behind ++ h ∷ [] → m ∷ reverse new ≡ pareto costs (m ∷ h ∷ reverse behind)
in_front {C = C} {H = H} costs laws m h behind new u v f less dear added =
    ap (λ (ms : List (Measure C H)). m ∷ ms) (pushed_round behind new h added) ∙ comes_in_front costs laws m h (reverse behind) u v f less dear
