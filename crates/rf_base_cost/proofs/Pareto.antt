-- Laws of `pareto`.
use Rattle.std.proofs.Common.{◌≡◌, ℕ, suc, length, ◌≤◌, ◌<◌, ◌≢◌, Bool, true, false, not, cond, List, [], ◌∷◌, ◌++◌, refl, sym, subst, inl, inr, arith}
use Rattle.std.specs.Prelude.{filter}
use Rattle.std.specs.List.{list_any}
use Rattle.std.proofs.lemmas.Bool.{cases_Bool}
use Rattle.rf_base_cost.specs.declared.measures.Measure.{Measure}
use Rattle.rf_base_cost.specs.Cost.{Costs, IsValue, Lawful}
use Rattle.rf_base_cost.specs.Pareto.{dominates, outdoes, undominated, by_last, pareto, IsMember, EachFollows, IsFrontier, EachIsValue}
use Rattle.rf_base_cost.proofs.Dominance.{true_not_false, dominates-from, not_dominates-right, not_dominates-dear, dominates-trans, dominates-total, outdoes-is, outdoes-from, not_outdoes, outdoes-not}
use Rattle.rf_base_cost.proofs.Members.{by_last-length, filter-shorter, member-append, member-filter, EachLeft, Falls, left_member, left_from, same_members, EachElsewhere, AllElsewhere, elsewhere_from, member-by_last, by_last-member, by_last-falls, value_member, value_from, value_append}
use Rattle.rf_base_cost.proofs.Kept.{NoneOutdoes, NoneDominates, Kept, none_outdoes_member, none_outdoes_from, none_dominates_member, none_dominates_from, none_outdoes-any, member-kept, kept-member, kept_is_member, kept_is_not_outdone, kept-append, kept-left, kept-right, kept_dominates}

pub member-pareto : {C H : Type 0} (costs : Costs C) (xs : List (Measure C H)) (z : Measure C H) →
    IsMember z (pareto costs xs) → Kept costs xs z
unfolding pareto
member-pareto costs xs z h = member-kept costs xs z (member-by_last z (undominated costs xs) h)

pub pareto-member : {C H : Type 0} (costs : Costs C) (xs : List (Measure C H)) (z : Measure C H) → Kept costs xs z →
    IsMember z (pareto costs xs)
unfolding pareto
pareto-member costs xs z h = by_last-member z (undominated costs xs) (kept-member costs xs z h)

pub pareto_keeps_members : {C H : Type 0} (costs : Costs C) (xs : List (Measure C H)) (z : Measure C H) →
    IsMember z (pareto costs xs) → IsMember z xs
pareto_keeps_members costs xs z h = kept_is_member costs xs z (member-pareto costs xs z h)

pub pareto_dominates_all : {C H : Type 0} (costs : Costs C) (laws : Lawful costs) (xs : List (Measure C H))
    (x : Measure C H) →
    EachIsValue costs xs → IsMember x xs →
    (y : Measure C H) × IsMember y (pareto costs xs) × (dominates costs y x ≡ true)
pareto_dominates_all costs laws xs x v h = let d = kept_dominates costs laws xs x v h in (
  d.0,
  pareto-member costs xs d.0 d.1,
  d.2,
)

pub pareto_values : {C H : Type 0} (costs : Costs C) (xs : List (Measure C H)) → EachIsValue costs xs →
    EachIsValue costs (pareto costs xs)
pareto_values costs xs v =
    value_from costs (pareto costs xs) (λ z h. value_member costs z xs v (pareto_keeps_members costs xs z h))

-- no two members that stay end at one column
stays_elsewhere : {C H : Type 0} (costs : Costs C) (laws : Lawful costs) (m z : Measure C H) (xs : List (Measure C H)) →
    IsValue costs m.cost → EachIsValue costs xs →
    NoneOutdoes costs xs m → Kept costs xs z → dominates costs m z ≡ false → z.last ≢ m.last
stays_elsewhere costs laws m z xs u v p k n e =
    let member = kept_is_member costs xs z k in
    let w = value_member costs z xs v member in
    elim (dominates-total costs laws m z u w (sym e)) [
      | inl h ↦ true_not_false (dominates costs m z) h n
      | inr h ↦
          true_not_false (outdoes costs z m) (outdoes-from costs z m h n) (none_outdoes_member costs xs m z p member)
    ]

elsewhere_step : {C H : Type 0} (m x : Measure C H) (rest : List (Measure C H)) (b : Bool) → x.last ≢ m.last →
    EachElsewhere m rest → EachElsewhere m (cond b (x ∷ rest) rest)
elsewhere_step m x rest true n p = (n, p)
elsewhere_step m x rest false n p = p

elsewhere_filter : {C H : Type 0} (p : Measure C H → Bool) (m : Measure C H) (xs : List (Measure C H)) →
    EachElsewhere m xs → EachElsewhere m (filter p xs)
elsewhere_filter p m [] h = tt
elsewhere_filter p m (x ∷ xs) h = elsewhere_step m x (filter p xs) (p x) h.0 (elsewhere_filter p m xs h.1)

all_step : {C H : Type 0} (x : Measure C H) (rest : List (Measure C H)) (b : Bool) → EachElsewhere x rest →
    AllElsewhere rest → AllElsewhere (cond b (x ∷ rest) rest)
all_step x rest true n p = (n, p)
all_step x rest false n p = p

all_filter : {C H : Type 0} (p : Measure C H → Bool) (xs : List (Measure C H)) → AllElsewhere xs →
    AllElsewhere (filter p xs)
all_filter p [] h = tt
all_filter p (x ∷ xs) h = all_step x (filter p xs) (p x) (elsewhere_filter p x xs h.0) (all_filter p xs h.1)

first_step : {C H : Type 0} (m : Measure C H) (rest : List (Measure C H)) (b : Bool) →
    (b ≡ false → EachElsewhere m rest) → AllElsewhere rest →
    AllElsewhere (cond b [] (m ∷ []) ++ rest)
first_step m rest true f p = p
first_step m rest false f p = (f refl, p)

not-false : (b : Bool) → not b ≡ true → b ≡ false
not-false true h = cc
not-false false h = refl

undominated-elsewhere : {C H : Type 0} (costs : Costs C) (laws : Lawful costs) (xs : List (Measure C H)) →
    EachIsValue costs xs → AllElsewhere (undominated costs xs)
unfolding undominated EachIsValue
undominated-elsewhere costs laws [] v = tt
undominated-elsewhere {C = C} {H = H} costs laws (m ∷ xs) v =
    let kept : Measure C H → Bool = λ (x : Measure C H). not (dominates costs m x) in
    first_step m (filter kept (undominated costs xs)) (list_any (λ (x : Measure C H). outdoes costs x m) xs)
    (λ e. elsewhere_from m (filter kept (undominated costs xs))
    (λ z h. let f = member-filter kept z (undominated costs xs) h in
    stays_elsewhere costs laws m z xs v.0 v.1 (none_outdoes-any costs xs m e) (member-kept costs xs z f.0)
    (not-false (dominates costs m z) f.1)))
    (all_filter kept (undominated costs xs) (undominated-elsewhere costs laws xs v.1))

pub pareto-falls : {C H : Type 0} (costs : Costs C) (laws : Lawful costs) (xs : List (Measure C H)) →
    EachIsValue costs xs → Falls (pareto costs xs)
unfolding pareto
pareto-falls costs laws xs v = by_last-falls (undominated costs xs) (undominated-elsewhere costs laws xs v)

-- lists of which the same members stay have the same frontier
pub same_pareto : {C H : Type 0} (costs : Costs C) (laws : Lawful costs) (xs ys : List (Measure C H)) →
    EachIsValue costs xs → EachIsValue costs ys →
    ((z : Measure C H) → Kept costs xs z → Kept costs ys z) → ((z : Measure C H) → Kept costs ys z → Kept costs xs z) →
    pareto costs xs ≡ pareto costs ys
same_pareto costs laws xs ys u v f g =
    same_members (pareto costs xs) (pareto costs ys) (pareto-falls costs laws xs u) (pareto-falls costs laws ys v)
    (λ z h. pareto-member costs ys z (f z (member-pareto costs xs z h)))
    (λ z h. pareto-member costs xs z (g z (member-pareto costs ys z h)))

-- a falling list of which no member dominates another is a frontier
follows_from : {C H : Type 0} (costs : Costs C) (m : Measure C H) (xs : List (Measure C H)) → EachLeft m xs →
    ((z : Measure C H) → IsMember z xs → dominates costs z m ≡ false) → EachFollows costs m xs
unfolding EachFollows IsMember
follows_from costs m [] p f = tt
follows_from costs m (x ∷ xs) p f =
    let less : x.last < m.last = p.0 in (
      p.0,
      elim (cases_Bool (costs.le x.cost m.cost)) [
        | inr h ↦ h
        | inl h ↦ true_not_false (dominates costs x m) (dominates-from costs x m (omega arith) h) (f x (inl refl))
      ],
      follows_from costs m xs p.1 (λ z h. f z (inr h)),
    )

frontier_from : {C H : Type 0} (costs : Costs C) (xs : List (Measure C H)) → Falls xs →
    ((z m : Measure C H) → IsMember z xs → IsMember m xs → z.last < m.last → dominates costs z m ≡ false) →
    IsFrontier costs xs
unfolding IsFrontier IsMember
frontier_from costs [] p f = tt
frontier_from costs (x ∷ xs) p f = (
  follows_from costs x xs p.0 (λ z h. f z x (inr h) (inl refl) (left_member x z xs p.0 h)),
  frontier_from costs xs p.1 (λ z m h k. f z m (inr h) (inr k)),
)

pub pareto_is_frontier : {C H : Type 0} (costs : Costs C) (laws : Lawful costs) (xs : List (Measure C H)) →
    EachIsValue costs xs → IsFrontier costs (pareto costs xs)
pareto_is_frontier costs laws xs v =
    frontier_from costs (pareto costs xs) (pareto-falls costs laws xs v)
    (λ z m h k less.
    let zk = member-pareto costs xs z h in
    let mk = member-pareto costs xs m k in
    let o = none_outdoes_member costs xs m z (kept_is_not_outdone costs xs m mk) (kept_is_member costs xs z zk) in
    not_outdoes costs z m o (not_dominates-right costs m z less))

pub follows-left : {C H : Type 0} (costs : Costs C) (m : Measure C H) (xs : List (Measure C H)) →
    EachFollows costs m xs → EachLeft m xs
unfolding EachFollows
follows-left costs m [] h = tt
follows-left costs m (x ∷ xs) h = (h.0, follows-left costs m xs h.2)

pub frontier-falls : {C H : Type 0} (costs : Costs C) (xs : List (Measure C H)) → IsFrontier costs xs → Falls xs
unfolding IsFrontier
frontier-falls costs [] h = tt
frontier-falls costs (x ∷ xs) h = (follows-left costs x xs h.0, frontier-falls costs xs h.1)

pub follows_member : {C H : Type 0} (costs : Costs C) (m z : Measure C H) (xs : List (Measure C H)) →
    EachFollows costs m xs → IsMember z xs → costs.le z.cost m.cost ≡ false
unfolding EachFollows IsMember
follows_member costs m z [] p h = absurd h
follows_member {C = C} {H = H} costs m z (x ∷ xs) p (inl e) =
    subst (λ (v : Measure C H). costs.le v.cost m.cost ≡ false) (sym e) p.1
follows_member costs m z (x ∷ xs) p (inr h) = follows_member costs m z xs p.2 h

-- each member of a frontier stays
pub frontier-kept : {C H : Type 0} (costs : Costs C) (xs : List (Measure C H)) (z : Measure C H) → IsFrontier costs xs →
    IsMember z xs → Kept costs xs z
unfolding IsFrontier IsMember
frontier-kept costs [] z p h = absurd h
frontier-kept costs (x ∷ xs) z p (inl e) =
    inl (
      e,
      none_outdoes_from costs xs x (λ y h. outdoes-not costs y x
          (not_dominates-dear costs y x (follows_member costs x y xs p.0 h))),
    )
frontier-kept costs (x ∷ xs) z p (inr h) =
    inr (
      frontier-kept costs xs z p.1 h,
      not_dominates-right costs x z (left_member x z xs (follows-left costs x xs p.0) h),
    )

-- a frontier is that of itself
pub frontier_is_pareto : {C H : Type 0} (costs : Costs C) (laws : Lawful costs) (xs : List (Measure C H)) →
    EachIsValue costs xs → IsFrontier costs xs → pareto costs xs ≡ xs
frontier_is_pareto costs laws xs v f =
    same_members (pareto costs xs) xs (pareto-falls costs laws xs v) (frontier-falls costs xs f)
    (λ z h. pareto_keeps_members costs xs z h)
    (λ z h. pareto-member costs xs z (frontier-kept costs xs z f h))

pareto-kept : {C H : Type 0} (costs : Costs C) (laws : Lawful costs) (xs : List (Measure C H)) (z : Measure C H) →
    EachIsValue costs xs → Kept costs xs z → Kept costs (pareto costs xs) z
pareto-kept costs laws xs z v k =
    frontier-kept costs (pareto costs xs) z (pareto_is_frontier costs laws xs v) (pareto-member costs xs z k)

kept-pareto : {C H : Type 0} (costs : Costs C) (xs : List (Measure C H)) (z : Measure C H) →
    Kept costs (pareto costs xs) z → Kept costs xs z
kept-pareto costs xs z k = member-pareto costs xs z (kept_is_member costs (pareto costs xs) z k)

-- what a member outdoes, one that stays outdoes; what a member dominates, one that stays dominates
outdone_by_kept : {C H : Type 0} (costs : Costs C) (laws : Lawful costs) (xs : List (Measure C H)) (z : Measure C H) →
    EachIsValue costs xs → IsValue costs z.cost →
    NoneOutdoes costs (pareto costs xs) z → NoneOutdoes costs xs z
outdone_by_kept costs laws xs z v w p =
    none_outdoes_from costs xs z (λ x h.
    elim (cases_Bool (outdoes costs x z)) [
      | inr k ↦ k
      | inl k ↦
          let d = pareto_dominates_all costs laws xs x v h in
          let xv = value_member costs x xs v h in
          let dv = value_member costs d.0 xs v (pareto_keeps_members costs xs d.0 d.1) in
          let o = outdoes-is costs x z k in
          let above : dominates costs d.0 z ≡ true = dominates-trans costs laws d.0 x z dv xv w d.2 o.0 in
          elim (cases_Bool (dominates costs z d.0)) [
            | inl back ↦ true_not_false (dominates costs z x) (dominates-trans costs laws z d.0 x w dv xv back d.2) o.1
            | inr none ↦
                true_not_false (outdoes costs d.0 z) (outdoes-from costs d.0 z above none)
                (none_outdoes_member costs (pareto costs xs) z d.0 p d.1)
          ]
    ])

dominated_by_kept : {C H : Type 0} (costs : Costs C) (laws : Lawful costs) (xs : List (Measure C H)) (z : Measure C H) →
    EachIsValue costs xs → IsValue costs z.cost →
    NoneDominates costs (pareto costs xs) z → NoneDominates costs xs z
dominated_by_kept costs laws xs z v w p =
    none_dominates_from costs xs z (λ x h.
    elim (cases_Bool (dominates costs x z)) [
      | inr k ↦ k
      | inl k ↦
          let d = pareto_dominates_all costs laws xs x v h in
          let xv = value_member costs x xs v h in
          let dv = value_member costs d.0 xs v (pareto_keeps_members costs xs d.0 d.1) in
          true_not_false (dominates costs d.0 z) (dominates-trans costs laws d.0 x z dv xv w d.2 k)
          (none_dominates_member costs (pareto costs xs) z d.0 p d.1)
    ])

fewer_outdo : {C H : Type 0} (costs : Costs C) (xs : List (Measure C H)) (z : Measure C H) → NoneOutdoes costs xs z →
    NoneOutdoes costs (pareto costs xs) z
fewer_outdo costs xs z p =
    none_outdoes_from costs (pareto costs xs) z
    (λ x h. none_outdoes_member costs xs z x p (pareto_keeps_members costs xs x h))

fewer_dominate : {C H : Type 0} (costs : Costs C) (xs : List (Measure C H)) (z : Measure C H) →
    NoneDominates costs xs z → NoneDominates costs (pareto costs xs) z
fewer_dominate costs xs z p =
    none_dominates_from costs (pareto costs xs) z
    (λ x h. none_dominates_member costs xs z x p (pareto_keeps_members costs xs x h))

-- pruning two parts, and then both as one list, prunes the whole
pub pareto_by_parts : {C H : Type 0} (costs : Costs C) (laws : Lawful costs) (xs ys : List (Measure C H)) →
    EachIsValue costs xs → EachIsValue costs ys →
    pareto costs (pareto costs xs ++ pareto costs ys) ≡ pareto costs (xs ++ ys)
pareto_by_parts costs laws xs ys u v =
    same_pareto costs laws (pareto costs xs ++ pareto costs ys) (xs ++ ys)
    (value_append costs (pareto costs xs) (pareto costs ys) (pareto_values costs xs u) (pareto_values costs ys v))
    (value_append costs xs ys u v)
    (λ z h. elim (kept-append costs (pareto costs xs) (pareto costs ys) z h) [
      | inl p ↦
          let k = kept-pareto costs xs z p.0 in
          let w = value_member costs z xs u (kept_is_member costs xs z k) in
          kept-left costs xs ys z k (outdone_by_kept costs laws ys z v w p.1)
      | inr p ↦
          let k = kept-pareto costs ys z p.0 in
          let w = value_member costs z ys v (kept_is_member costs ys z k) in
          kept-right costs xs ys z k (dominated_by_kept costs laws xs z u w p.1)
    ])
    (λ z h. elim (kept-append costs xs ys z h) [
      | inl p ↦
          kept-left costs (pareto costs xs) (pareto costs ys) z (pareto-kept costs laws xs z u p.0)
          (fewer_outdo costs ys z p.1)
      | inr p ↦
          kept-right costs (pareto costs xs) (pareto costs ys) z (pareto-kept costs laws ys z v p.0)
          (fewer_dominate costs xs z p.1)
    ])

-- a measure that an earlier one dominates can be left out
pub drop_dominated : {C H : Type 0} (costs : Costs C) (laws : Lawful costs) (xs ys : List (Measure C H))
    (x y : Measure C H) → EachIsValue costs xs → EachIsValue costs (y ∷ ys) →
    IsMember x xs → dominates costs x y ≡ true → pareto costs (xs ++ y ∷ ys) ≡ pareto costs (xs ++ ys)
unfolding EachIsValue
drop_dominated {C = C} {H = H} costs laws xs ys x y u v h d =
    let xv = value_member costs x xs u h in
    same_pareto costs laws (xs ++ y ∷ ys) (xs ++ ys) (value_append costs xs (y ∷ ys) u v)
    (value_append costs xs ys u v.1)
    (λ z k. elim (kept-append costs xs (y ∷ ys) z k) [
      | inl p ↦ kept-left costs xs ys z p.0 p.1.1
      | inr p ↦ elim p.0 [
        | inl q ↦
            true_not_false (dominates costs x y) d (subst (λ (m : Measure C H). dominates costs x m ≡ false) q.0
            (none_dominates_member costs xs z x p.1 h))
        | inr q ↦ kept-right costs xs ys z q.0 p.1
      ]
    ])
    (λ z k. elim (kept-append costs xs ys z k) [
      | inl p ↦
          let w = value_member costs z xs u (kept_is_member costs xs z p.0) in
          let none : outdoes costs y z ≡ false =
          elim (cases_Bool (outdoes costs y z)) [
            | inr e ↦ e
            | inl e ↦
                let o = outdoes-is costs y z e in
                let above : dominates costs x z ≡ true = dominates-trans costs laws x y z xv v.0 w d o.0 in
                elim (cases_Bool (dominates costs z x)) [
                  | inl back ↦
                      true_not_false (dominates costs z y) (dominates-trans costs laws z x y w xv v.0 back d) o.1
                  | inr apart ↦
                      true_not_false (outdoes costs x z) (outdoes-from costs x z above apart)
                      (none_outdoes_member costs xs z x (kept_is_not_outdone costs xs z p.0) h)
                ]
          ] in
          kept-left costs xs (y ∷ ys) z p.0 (none, p.1)
      | inr p ↦
          let w = value_member costs z ys v.1 (kept_is_member costs ys z p.0) in
          let none : dominates costs y z ≡ false =
          elim (cases_Bool (dominates costs y z)) [
            | inr e ↦ e
            | inl e ↦
                true_not_false (dominates costs x z) (dominates-trans costs laws x y z xv v.0 w d e)
                (none_dominates_member costs xs z x p.1 h)
          ] in
          kept-right costs xs (y ∷ ys) z (inr (p.0, none)) p.1
    ])

-- a first measure that a later one outdoes can be left out
pub drop_outdone : {C H : Type 0} (costs : Costs C) (laws : Lawful costs) (x y : Measure C H)
    (xs : List (Measure C H)) → EachIsValue costs (x ∷ xs) →
    IsMember y xs → outdoes costs y x ≡ true → pareto costs (x ∷ xs) ≡ pareto costs xs
unfolding EachIsValue
drop_outdone costs laws x y xs v h d =
    let yv = value_member costs y xs v.1 h in
    let o = outdoes-is costs y x d in
    same_pareto costs laws (x ∷ xs) xs v v.1
    (λ z k. elim k [
      | inl p ↦ true_not_false (outdoes costs y x) d (none_outdoes_member costs xs x y p.1 h)
      | inr p ↦ p.0
    ])
    (λ z k.
    let w = value_member costs z xs v.1 (kept_is_member costs xs z k) in
    let none : dominates costs x z ≡ false =
    elim (cases_Bool (dominates costs x z)) [
      | inr e ↦ e
      | inl e ↦
          let above : dominates costs y z ≡ true = dominates-trans costs laws y x z yv v.0 w o.0 e in
          elim (cases_Bool (dominates costs z y)) [
            | inl back ↦ true_not_false (dominates costs x y) (dominates-trans costs laws x z y v.0 w yv e back) o.1
            | inr apart ↦
                true_not_false (outdoes costs y z) (outdoes-from costs y z above apart)
                (none_outdoes_member costs xs z y (kept_is_not_outdone costs xs z k) h)
          ]
    ] in
    inr (k, none))

-- a measure that ends further right than all others and that none of them makes go comes first
pub take_rightmost : {C H : Type 0} (costs : Costs C) (laws : Lawful costs) (xs ys : List (Measure C H))
    (y : Measure C H) → EachIsValue costs xs → EachIsValue costs (y ∷ ys) →
    EachLeft y xs → EachLeft y ys → NoneDominates costs xs y → NoneOutdoes costs ys y →
    pareto costs (xs ++ y ∷ ys) ≡ y ∷ pareto costs (xs ++ ys)
unfolding EachIsValue IsMember
take_rightmost {C = C} {H = H} costs laws xs ys y u v left right n m =
    let v_all = value_append costs xs ys u v.1 in
    same_members (pareto costs (xs ++ y ∷ ys)) (y ∷ pareto costs (xs ++ ys))
    (pareto-falls costs laws (xs ++ y ∷ ys) (value_append costs xs (y ∷ ys) u v)) (
      left_from y (pareto costs (xs ++ ys)) (λ z h.
          elim (member-append z xs ys (pareto_keeps_members costs (xs ++ ys) z h)) [
            | inl k ↦ left_member y z xs left k
            | inr k ↦ left_member y z ys right k
          ]),
      pareto-falls costs laws (xs ++ ys) v_all,
    )
    (λ z h. elim (kept-append costs xs (y ∷ ys) z (member-pareto costs (xs ++ y ∷ ys) z h)) [
      | inl p ↦ inr (pareto-member costs (xs ++ ys) z (kept-left costs xs ys z p.0 p.1.1))
      | inr p ↦ elim p.0 [
        | inl q ↦ inl q.0
        | inr q ↦ inr (pareto-member costs (xs ++ ys) z (kept-right costs xs ys z q.0 p.1))
      ]
    ])
    (λ z h. elim h [
      | inl e ↦
          let whole : Kept costs (xs ++ y ∷ ys) y = kept-right costs xs (y ∷ ys) y (inl (refl, m)) n in
          subst (λ (w : Measure C H). IsMember w (pareto costs (xs ++ y ∷ ys))) (sym e)
          (pareto-member costs (xs ++ y ∷ ys) y whole)
      | inr k ↦
          pareto-member costs (xs ++ y ∷ ys) z
          (elim (kept-append costs xs ys z (member-pareto costs (xs ++ ys) z k)) [
            | inl p ↦
                let less = left_member y z xs left (kept_is_member costs xs z p.0) in
                kept-left costs xs (y ∷ ys) z p.0 (outdoes-not costs y z (not_dominates-right costs y z less), p.1)
            | inr p ↦
                let less = left_member y z ys right (kept_is_member costs ys z p.0) in
                kept-right costs xs (y ∷ ys) z (inr (p.0, not_dominates-right costs y z less)) p.1
          ])
    ])

unless_shorter : {C H : Type 0} (m : Measure C H) (rest : List (Measure C H)) (n : ℕ) (b : Bool) → length rest ≤ n →
    length (cond b [] (m ∷ []) ++ rest) ≤ suc n
unless_shorter m rest n true p = omega arith
unless_shorter m rest n false p = omega arith

undominated-shorter : {C H : Type 0} (costs : Costs C) (xs : List (Measure C H)) →
    length (undominated costs xs) ≤ length xs
unfolding undominated
undominated-shorter costs [] = omega arith
undominated-shorter {C = C} {H = H} costs (m ∷ xs) =
    let stays : Measure C H → Bool = λ (x : Measure C H). not (dominates costs m x) in
    let fewer : length (filter stays (undominated costs xs)) ≤ length (undominated costs xs) =
    filter-shorter stays (undominated costs xs) in
    let rest : length (undominated costs xs) ≤ length xs = undominated-shorter costs xs in
    unless_shorter m (filter stays (undominated costs xs)) (length xs)
    (list_any (λ (x : Measure C H). outdoes costs x m) xs) (omega arith)

-- a frontier has no more measures than the list
pub pareto-shorter : {C H : Type 0} (costs : Costs C) (xs : List (Measure C H)) → length (pareto costs xs) ≤ length xs
unfolding pareto
pareto-shorter costs xs =
    let same : length (by_last (undominated costs xs)) ≡ length (undominated costs xs) =
    by_last-length (undominated costs xs) in
    let fewer : length (undominated costs xs) ≤ length xs = undominated-shorter costs xs in
    omega arith
