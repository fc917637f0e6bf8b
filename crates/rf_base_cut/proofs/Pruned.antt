-- Frontiers that are pruned and cut short: what lies beyond the first measure that ends by the column can be left out.
use Rattle.std.proofs.Common.{◌≡◌, ℕ, ◌<◌, ◌≤◌, Bool, true, false, cond, List, [], ◌∷◌, ◌++◌, append_assoc, append-nil, refl, sym, ◌∙◌, ap, subst, inl, inr, arith}
use Rattle.std.specs.Prelude.{nat_le, flat_map}
use Rattle.std.proofs.lemmas.Bool.{cases_Bool}
use Rattle.rf_base_cost.specs.declared.measures.Measure.{Measure}
use Rattle.rf_base_cost.specs.Cost.{Costs, IsValue, AtMost, Lawful}
use Rattle.rf_base_cost.specs.Pareto.{dominates, pareto, IsMember, EachFollows, IsFrontier, EachIsValue}
use Rattle.rf_base_cost.proofs.Dominance.{true_not_false, nat_le-true, nat_le-false, dominates-last, dominates-cost, outdoes-not}
use Rattle.rf_base_cost.proofs.Members.{member-append, member-left, member-right, same_members, value_member, value_append}
use Rattle.rf_base_cost.proofs.Kept.{Kept, kept_is_member, kept-append, kept-left, kept-right}
use Rattle.rf_base_cost.proofs.Pareto.{member-pareto, pareto-member, pareto_keeps_members, pareto_dominates_all, pareto_values, pareto-falls, pareto_is_frontier, frontier_is_pareto, pareto_by_parts, follows_member}
use Rattle.rf_base_cut.specs.Cut.{cut}
use Rattle.rf_base_cut.proofs.Cutting.{cut_falls, cut_values}
use Rattle.rf_base_optimum.proofs.Pruning.{at_most_itself}

-- no member that ends by x costs less than z
abbrev LeastBy : {C H : Type 0} → Costs C → ℕ → List (Measure C H) → Measure C H → Type 0
LeastBy {C} {H} costs x xs z = (y : Measure C H) → IsMember y xs → y.last ≤ x → AtMost costs z.cost y.cost

-- what doesn't cost more costs no less
at_most : {C : Type 0} (costs : Costs C) (laws : Lawful costs) (a b : C) → IsValue costs a → IsValue costs b →
    costs.le b a ≡ false → AtMost costs a b
at_most costs laws a b u v e = elim (laws.total a b u v) [ inl h ↦ h | inr h ↦ true_not_false (costs.le b a) h e ]

-- the first measure of a frontier costs least
first_least : {C H : Type 0} (costs : Costs C) (laws : Lawful costs) (m y : Measure C H) (xs : List (Measure C H)) →
    IsValue costs m.cost → EachIsValue costs xs → EachFollows costs m xs →
    IsMember y (m ∷ xs) → AtMost costs m.cost y.cost
unfolding IsMember
first_least {C = C} {H = H} costs laws m y xs u v h (inl e) =
    subst (λ (k : Measure C H). AtMost costs m.cost k.cost) (sym e) (at_most_itself costs laws m.cost u)
first_least costs laws m y xs u v h (inr k) =
    at_most costs laws m.cost y.cost u (value_member costs y xs v k) (follows_member costs m y xs h k)

-- the members of a frontier that is cut
cut_step : {C H : Type 0} (costs : Costs C) (laws : Lawful costs) (x : ℕ) (m z : Measure C H)
    (rest more : List (Measure C H)) (b : Bool) → nat_le m.last x ≡ b →
    IsValue costs m.cost → EachIsValue costs rest → EachFollows costs m rest →
    (IsMember z more → IsMember z rest × LeastBy costs x rest z) →
    IsMember z (m ∷ cond b [] more) → IsMember z (m ∷ rest) × LeastBy costs x (m ∷ rest) z
unfolding IsMember
cut_step {C = C} {H = H} costs laws x m z rest more b e u v h f (inl k) = (
  inl k,
  λ y l p. subst (λ (n : Measure C H). AtMost costs n.cost y.cost) (sym k)
      (first_least costs laws m y rest u v h l),
)
cut_step costs laws x m z rest more true e u v h f (inr k) = absurd k
cut_step {C = C} {H = H} costs laws x m z rest more false e u v h f (inr k) =
    let found = f k in
    let past : x < m.last = nat_le-false m.last x e in (
      inr found.0,
      λ y l p. elim l [
        | inl same ↦ let ends : m.last ≤ x = subst (λ (n : Measure C H). n.last ≤ x) same p in absurd (omega arith)
        | inr later ↦ found.1 y later p
      ],
    )

member_of_cut : {C H : Type 0} (costs : Costs C) (laws : Lawful costs) (x : ℕ) (z : Measure C H)
    (xs : List (Measure C H)) → EachIsValue costs xs → IsFrontier costs xs →
    IsMember z (cut x xs) → IsMember z xs × LeastBy costs x xs z
unfolding cut IsMember EachIsValue IsFrontier
member_of_cut costs laws x z [] v f h = absurd h
member_of_cut costs laws x z (m ∷ xs) v f h =
    cut_step costs laws x m z xs (cut x xs) (nat_le m.last x) refl v.0 v.1 f.0
    (λ k. member_of_cut costs laws x z xs v.1 f.1 k) h

step_cut : {C H : Type 0} (costs : Costs C) (x : ℕ) (m z : Measure C H) (rest more : List (Measure C H)) (b : Bool) →
    nat_le m.last x ≡ b →
    EachFollows costs m rest → (IsMember z rest → IsMember z more) → LeastBy costs x (m ∷ rest) z →
    IsMember z (m ∷ rest) → IsMember z (m ∷ cond b [] more)
unfolding IsMember
step_cut costs x m z rest more b e h f l (inl k) = inl k
step_cut costs x m z rest more true e h f l (inr k) =
    true_not_false (costs.le z.cost m.cost) (l m (inl refl) (nat_le-true m.last x e))
    (follows_member costs m z rest h k)
step_cut costs x m z rest more false e h f l (inr k) = inr (f k)

cut_member : {C H : Type 0} (costs : Costs C) (x : ℕ) (z : Measure C H) (xs : List (Measure C H)) →
    IsFrontier costs xs → LeastBy costs x xs z → IsMember z xs → IsMember z (cut x xs)
unfolding cut IsMember IsFrontier
cut_member costs x z [] f l h = h
cut_member costs x z (m ∷ xs) f l h =
    step_cut costs x m z xs (cut x xs) (nat_le m.last x) refl f.0
    (λ k. cut_member costs x z xs f.1 (λ y i p. l y (inr i) p) k) l h

-- z stays in the list's frontier when that is cut
abbrev StaysBy : {C H : Type 0} → Costs C → ℕ → List (Measure C H) → Measure C H → Type 0
StaysBy costs x xs z = Kept costs xs z × LeastBy costs x xs z

stays_of_cut : {C H : Type 0} (costs : Costs C) (laws : Lawful costs) (x : ℕ) (z : Measure C H)
    (xs : List (Measure C H)) → EachIsValue costs xs →
    IsMember z (cut x (pareto costs xs)) → StaysBy costs x xs z
stays_of_cut costs laws x z xs v h =
    let found =
    member_of_cut costs laws x z (pareto costs xs) (pareto_values costs xs v) (pareto_is_frontier costs laws xs v) h in
    let stays = member-pareto costs xs z found.0 in
    let zv = value_member costs z xs v (kept_is_member costs xs z stays) in (
      stays,
      λ y k p.
          let d = pareto_dominates_all costs laws xs y v k in
          let dv = value_member costs d.0 xs v (pareto_keeps_members costs xs d.0 d.1) in
          let left : d.0.last ≤ y.last = dominates-last costs d.0 y d.2 in
          laws.transitive z.cost d.0.cost y.cost zv dv (value_member costs y xs v k) (found.1 d.0 d.1 (omega arith))
          (dominates-cost costs d.0 y d.2),
    )

cut_of_stays : {C H : Type 0} (costs : Costs C) (laws : Lawful costs) (x : ℕ) (z : Measure C H)
    (xs : List (Measure C H)) → EachIsValue costs xs →
    StaysBy costs x xs z → IsMember z (cut x (pareto costs xs))
cut_of_stays costs laws x z xs v h =
    cut_member costs x z (pareto costs xs) (pareto_is_frontier costs laws xs v)
    (λ y k p. h.1 y (pareto_keeps_members costs xs y k) p) (pareto-member costs xs z h.0)

-- lists of which the same measures stay have the same frontier when it is cut
same_cut : {C H : Type 0} (costs : Costs C) (laws : Lawful costs) (x : ℕ) (xs ys : List (Measure C H)) →
    EachIsValue costs xs → EachIsValue costs ys →
    ((z : Measure C H) → StaysBy costs x xs z → StaysBy costs x ys z) →
    ((z : Measure C H) → StaysBy costs x ys z → StaysBy costs x xs z) →
    cut x (pareto costs xs) ≡ cut x (pareto costs ys)
same_cut costs laws x xs ys u v f g =
    same_members (cut x (pareto costs xs)) (cut x (pareto costs ys))
    (cut_falls x (pareto costs xs) (pareto-falls costs laws xs u))
    (cut_falls x (pareto costs ys) (pareto-falls costs laws ys v))
    (λ z h. cut_of_stays costs laws x z ys v (f z (stays_of_cut costs laws x z xs u h)))
    (λ z h. cut_of_stays costs laws x z xs u (g z (stays_of_cut costs laws x z ys v h)))

-- a measure that costs more than one that ends by x can be left out
pub drop_beyond : {C H : Type 0} (costs : Costs C) (laws : Lawful costs) (x : ℕ) (e z : Measure C H)
    (xs ys : List (Measure C H)) → EachIsValue costs xs → EachIsValue costs (z ∷ ys) →
    IsMember e xs → e.last ≤ x → costs.le z.cost e.cost ≡ false →
    cut x (pareto costs (xs ++ z ∷ ys)) ≡ cut x (pareto costs (xs ++ ys))
unfolding EachIsValue IsMember
drop_beyond {C = C} {H = H} costs laws x e z xs ys u v h ends dear =
    let ev = value_member costs e xs u h in
    same_cut costs laws x (xs ++ z ∷ ys) (xs ++ ys) (value_append costs xs (z ∷ ys) u v)
    (value_append costs xs ys u v.1)
    (λ k s. (
      elim (kept-append costs xs (z ∷ ys) k s.0) [
        | inl p ↦ kept-left costs xs ys k p.0 p.1.1
        | inr p ↦ elim p.0 [
          | inl q ↦
              true_not_false (costs.le z.cost e.cost)
              (subst (λ (n : Measure C H). AtMost costs n.cost e.cost) q.0
              (s.1 e (member-left e xs (z ∷ ys) h) ends)) dear
          | inr q ↦ kept-right costs xs ys k q.0 p.1
        ]
      ],
      λ y i p. s.1 y (elim
          (member-append y xs ys i) [
            | inl j ↦ member-left y xs (z ∷ ys) j
            | inr j ↦ member-right y xs (z ∷ ys)
                (inr j)
          ]) p,
    ))
    (λ k s.
    let member = kept_is_member costs (xs ++ ys) k s.0 in
    let kv = value_member costs k (xs ++ ys) (value_append costs xs ys u v.1) member in
    let near = s.1 e (member-left e xs ys h) ends in
    let not_above : dominates costs z k ≡ false =
    elim (cases_Bool (dominates costs z k)) [
      | inr none ↦ none
      | inl above ↦
          true_not_false (costs.le z.cost e.cost)
          (laws.transitive z.cost k.cost e.cost v.0 kv ev (dominates-cost costs z k above) near) dear
    ] in
    let cheaper = at_most costs laws e.cost z.cost ev v.0 dear in (
      elim (kept-append costs xs ys k s.0) [
        | inl p ↦ kept-left costs xs (z ∷ ys) k p.0 (outdoes-not costs z k not_above, p.1)
        | inr p ↦ kept-right costs xs (z ∷ ys) k (inr (p.0, not_above)) p.1
      ],
      λ y i p.
          elim (member-append y xs (z ∷ ys) i) [
            | inl j ↦ s.1 y (member-left y xs ys j) p
            | inr j ↦ elim j [
              | inl same ↦
                  subst (λ (n : Measure C H). AtMost costs k.cost n.cost) (sym same)
                  (laws.transitive k.cost e.cost z.cost kv ev v.0 near cheaper)
              | inr l ↦ s.1 y (member-right y xs ys l) p
            ]
          ],
    ))

-- so all that follow in a frontier can be
pub drop_rest : {C H : Type 0} (costs : Costs C) (laws : Lawful costs) (x : ℕ) (m : Measure C H)
    (xs rest ys : List (Measure C H)) → EachIsValue costs xs → EachIsValue costs rest →
    EachIsValue costs ys → IsMember m xs → m.last ≤ x → EachFollows costs m rest →
    cut x (pareto costs (xs ++ (rest ++ ys))) ≡ cut x (pareto costs (xs ++ ys))
unfolding EachIsValue EachFollows
drop_rest costs laws x m xs [] ys u v t h ends f = refl
drop_rest costs laws x m xs (r ∷ rest) ys u v t h ends f =
    drop_beyond costs laws x m r xs (rest ++ ys) u (v.0, value_append costs rest ys v.1 t) h ends f.1
    ∙ drop_rest costs laws x m xs rest ys u v.1 t h ends f.2

after_one : {C H : Type 0} (m : Measure C H) (xs ys : List (Measure C H)) → (xs ++ (m ∷ [])) ++ ys ≡ xs ++ (m ∷ ys)
after_one m xs ys = append_assoc xs (m ∷ []) ys

-- a frontier in a list can be cut first
cut_one_step : {C H : Type 0} (costs : Costs C) (laws : Lawful costs) (x : ℕ) (m : Measure C H)
    (xs rest more ys : List (Measure C H)) (b : Bool) → nat_le m.last x ≡ b →
    EachIsValue costs xs → IsValue costs m.cost → EachIsValue costs rest → EachIsValue costs ys →
    EachFollows costs m rest →
    cut x (pareto costs ((xs ++ (m ∷ [])) ++ (rest ++ ys))) ≡ cut x (pareto costs ((xs ++ (m ∷ [])) ++ (more ++ ys))) →
    cut x (pareto costs (xs ++ (m ∷ (rest ++ ys)))) ≡ cut x (pareto costs (xs ++ (m ∷ (cond b [] more ++ ys))))
unfolding EachIsValue IsMember
cut_one_step {C = C} {H = H} costs laws x m xs rest more ys true e u v t s f k =
    let begun : EachIsValue costs (xs ++ (m ∷ [])) = value_append costs xs (m ∷ []) u (v, tt) in
    let there : IsMember m (xs ++ (m ∷ [])) = member-right m xs (m ∷ []) (inl refl) in
    ap (λ (z : List (Measure C H)). cut x (pareto costs z)) (sym (after_one m xs (rest ++ ys)))
    ∙ drop_rest costs laws x m (xs ++ (m ∷ [])) rest ys begun t s there (nat_le-true m.last x e) f
    ∙ ap (λ (z : List (Measure C H)). cut x (pareto costs z)) (after_one m xs ys)
cut_one_step {C = C} {H = H} costs laws x m xs rest more ys false e u v t s f k =
    ap (λ (z : List (Measure C H)). cut x (pareto costs z)) (sym (after_one m xs (rest ++ ys)))
    ∙ k
    ∙ ap (λ (z : List (Measure C H)). cut x (pareto costs z)) (after_one m xs (more ++ ys))

pub cut_one : {C H : Type 0} (costs : Costs C) (laws : Lawful costs) (x : ℕ) (xs list ys : List (Measure C H)) →
    EachIsValue costs xs → EachIsValue costs list → EachIsValue costs ys →
    IsFrontier costs list → cut x (pareto costs (xs ++ (list ++ ys))) ≡ cut x (pareto costs (xs ++ (cut x list ++ ys)))
unfolding cut EachIsValue IsFrontier
cut_one costs laws x xs [] ys u v t f = refl
cut_one costs laws x xs (m ∷ list) ys u v t f =
    cut_one_step costs laws x m xs list (cut x list) ys (nat_le m.last x) refl u v.0 v.1 t f.0
    (cut_one costs laws x (xs ++ (m ∷ [])) list ys (value_append costs xs (m ∷ []) u (v.0, tt)) v.1 t f.1)

-- of two frontiers both can be cut before they are pruned as one list
pub cut_both : {C H : Type 0} (costs : Costs C) (laws : Lawful costs) (x : ℕ) (xs ys : List (Measure C H)) →
    EachIsValue costs xs → EachIsValue costs ys →
    IsFrontier costs xs → IsFrontier costs ys →
    cut x (pareto costs (xs ++ ys)) ≡ cut x (pareto costs (cut x xs ++ cut x ys))
unfolding EachIsValue
cut_both {C = C} {H = H} costs laws x xs ys u v f g =
    cut_one costs laws x [] xs ys tt u v f
    ∙ ap (λ (z : List (Measure C H)). cut x (pareto costs (cut x xs ++ z))) (sym (append-nil ys))
    ∙ cut_one costs laws x (cut x xs) ys [] (cut_values costs x xs u) v tt g
    ∙ ap (λ (z : List (Measure C H)). cut x (pareto costs (cut x xs ++ z))) (append-nil (cut x ys))

pub row_values : {A C H : Type 0} (costs : Costs C) (f : A → List (Measure C H)) (ks : List A) →
    ((k : A) → IsMember k ks → EachIsValue costs (f k)) → EachIsValue costs (flat_map f ks)
unfolding EachIsValue IsMember
row_values costs f [] g = tt
row_values costs f (k ∷ ks) g =
    value_append costs (f k) (flat_map f ks) (g k (inl refl)) (row_values costs f ks (λ a i. g a (inr i)))

-- so can all of a row
row_behind : {A C H : Type 0} (costs : Costs C) (laws : Lawful costs) (x : ℕ) (f : A → List (Measure C H))
    (xs : List (Measure C H)) (ks : List A) → EachIsValue costs xs →
    ((k : A) → IsMember k ks → EachIsValue costs (f k) × IsFrontier costs (f k)) →
    cut x (pareto costs (xs ++ flat_map f ks)) ≡ cut x (pareto costs (xs ++ flat_map (λ k. cut x (f k)) ks))
unfolding EachIsValue IsMember
row_behind costs laws x f xs [] u g = refl
row_behind {A = A} {C = C} {H = H} costs laws x f xs (k ∷ ks) u g =
    let first = g k (inl refl) in
    cut_one costs laws x xs (f k) (flat_map f ks) u first.0 (row_values costs f ks (λ a i. (g a (inr i)).0)) first.1
    ∙ ap (λ (z : List (Measure C H)). cut x (pareto costs z)) (sym (append_assoc xs (cut x (f k)) (flat_map f ks)))
    ∙ row_behind costs laws x f (xs ++ cut x (f k)) ks
    (value_append costs xs (cut x (f k)) u (cut_values costs x (f k) first.0)) (λ a i. g a (inr i))
    ∙ ap (λ (z : List (Measure C H)). cut x (pareto costs z))
    (append_assoc xs (cut x (f k)) (flat_map (λ (a : A). cut x (f a)) ks))

pub cut_row : {A C H : Type 0} (costs : Costs C) (laws : Lawful costs) (x : ℕ) (f : A → List (Measure C H))
    (ks : List A) →
    ((k : A) → IsMember k ks → EachIsValue costs (f k) × IsFrontier costs (f k)) →
    cut x (pareto costs (flat_map f ks)) ≡ cut x (pareto costs (flat_map (λ k. cut x (f k)) ks))
unfolding EachIsValue
cut_row costs laws x f ks g = row_behind costs laws x f [] ks tt g

-- pruning and cutting two parts, and then both as one list, prunes and cuts the whole
pub cut_by_parts : {C H : Type 0} (costs : Costs C) (laws : Lawful costs) (x : ℕ) (xs ys : List (Measure C H)) →
    EachIsValue costs xs → EachIsValue costs ys →
    cut x (pareto costs (cut x (pareto costs xs) ++ cut x (pareto costs ys))) ≡ cut x (pareto costs (xs ++ ys))
cut_by_parts {C = C} {H = H} costs laws x xs ys u v =
    sym (cut_both costs laws x (pareto costs xs) (pareto costs ys) (pareto_values costs xs u) (pareto_values costs ys v)
    (pareto_is_frontier costs laws xs u) (pareto_is_frontier costs laws ys v))
    ∙ ap (cut x) (pareto_by_parts costs laws xs ys u v)

pub pareto_before : {C H : Type 0} (costs : Costs C) (laws : Lawful costs) (xs ys : List (Measure C H)) →
    EachIsValue costs xs → EachIsValue costs ys →
    pareto costs (pareto costs xs ++ ys) ≡ pareto costs (xs ++ ys)
pareto_before {C = C} {H = H} costs laws xs ys u v =
    let pruned = pareto_values costs xs u in
    sym (pareto_by_parts costs laws (pareto costs xs) ys pruned v)
    ∙ ap (λ (z : List (Measure C H)). pareto costs (z ++ pareto costs ys))
    (frontier_is_pareto costs laws (pareto costs xs) pruned (pareto_is_frontier costs laws xs u))
    ∙ pareto_by_parts costs laws xs ys u v

-- what comes to a list that is pruned and cut is pruned and cut with it
pub cut_onwards : {C H : Type 0} (costs : Costs C) (laws : Lawful costs) (x : ℕ) (xs ys : List (Measure C H)) →
    EachIsValue costs xs → EachIsValue costs ys →
    cut x (pareto costs (cut x (pareto costs xs) ++ ys)) ≡ cut x (pareto costs (xs ++ ys))
unfolding EachIsValue
cut_onwards costs laws x xs ys u v =
    sym (cut_one costs laws x [] (pareto costs xs) ys tt (pareto_values costs xs u) v
    (pareto_is_frontier costs laws xs u))
    ∙ ap (cut x) (pareto_before costs laws xs ys u v)
