-- Which members stay, member by member.
use Rattle.std.proofs.Common.{◌≡◌, Bool, true, false, not, ◌||◌, cond, List, [], ◌∷◌, ◌++◌, refl, sym, subst, ◌⊎◌, inl, inr}
use Rattle.std.specs.Prelude.{filter, ⊤}
use Rattle.std.specs.List.{list_any}
use Rattle.std.proofs.lemmas.Bool.{cases_Bool, or_parts, or_from, not_from_false}
use Rattle.rf_base_cost.specs.declared.measures.Measure.{Measure}
use Rattle.rf_base_cost.specs.Cost.{Costs, IsValue, Lawful}
use Rattle.rf_base_cost.specs.Pareto.{dominates, outdoes, unless_outdone, undominated, IsMember, EachIsValue}
use Rattle.rf_base_cost.proofs.Dominance.{not_true, true_not_false, dominates-refl, dominates-trans, outdoes-is, outdoes-not, outdoes-itself}
use Rattle.rf_base_cost.proofs.Members.{member-append, member-left, member-right, member-filter, filter-member, value_member}

-- none of the measures outdoes z
abbrev pub NoneOutdoes : {C H : Type 0} → Costs C → List (Measure C H) → Measure C H → Type 0
NoneOutdoes costs [] z = ⊤
NoneOutdoes costs (x ∷ rest) z = (outdoes costs x z ≡ false) × NoneOutdoes costs rest z

-- none of the measures dominates z
abbrev pub NoneDominates : {C H : Type 0} → Costs C → List (Measure C H) → Measure C H → Type 0
NoneDominates costs [] z = ⊤
NoneDominates costs (x ∷ rest) z = (dominates costs x z ≡ false) × NoneDominates costs rest z

-- z is a member that stays
abbrev pub Kept : {C H : Type 0} → Costs C → List (Measure C H) → Measure C H → Type 0
Kept costs [] z = ⊥
Kept costs (m ∷ rest) z = ((z ≡ m) × NoneOutdoes costs rest m) ⊎ (Kept costs rest z × (dominates costs m z ≡ false))

pub none_outdoes_member : {C H : Type 0} (costs : Costs C) (xs : List (Measure C H)) (z x : Measure C H) →
    NoneOutdoes costs xs z → IsMember x xs → outdoes costs x z ≡ false
unfolding IsMember
none_outdoes_member costs [] z x p h = absurd h
none_outdoes_member {C = C} {H = H} costs (y ∷ xs) z x p (inl e) =
    subst (λ (v : Measure C H). outdoes costs v z ≡ false) (sym e) p.0
none_outdoes_member costs (y ∷ xs) z x p (inr h) = none_outdoes_member costs xs z x p.1 h

pub none_outdoes_from : {C H : Type 0} (costs : Costs C) (xs : List (Measure C H)) (z : Measure C H) →
    ((x : Measure C H) → IsMember x xs → outdoes costs x z ≡ false) → NoneOutdoes costs xs z
unfolding IsMember
none_outdoes_from costs [] z f = tt
none_outdoes_from costs (x ∷ xs) z f = (f x (inl refl), none_outdoes_from costs xs z (λ y h. f y (inr h)))

pub none_dominates_member : {C H : Type 0} (costs : Costs C) (xs : List (Measure C H)) (z x : Measure C H) →
    NoneDominates costs xs z → IsMember x xs → dominates costs x z ≡ false
unfolding IsMember
none_dominates_member costs [] z x p h = absurd h
none_dominates_member {C = C} {H = H} costs (y ∷ xs) z x p (inl e) =
    subst (λ (v : Measure C H). dominates costs v z ≡ false) (sym e) p.0
none_dominates_member costs (y ∷ xs) z x p (inr h) = none_dominates_member costs xs z x p.1 h

pub none_dominates_from : {C H : Type 0} (costs : Costs C) (xs : List (Measure C H)) (z : Measure C H) →
    ((x : Measure C H) → IsMember x xs → dominates costs x z ≡ false) → NoneDominates costs xs z
unfolding IsMember
none_dominates_from costs [] z f = tt
none_dominates_from costs (x ∷ xs) z f = (f x (inl refl), none_dominates_from costs xs z (λ y h. f y (inr h)))

pub none_outdoes-any : {C H : Type 0} (costs : Costs C) (xs : List (Measure C H)) (z : Measure C H) →
    list_any (λ x. outdoes costs x z) xs ≡ false → NoneOutdoes costs xs z
none_outdoes-any costs [] z h = tt
none_outdoes-any {C = C} {H = H} costs (x ∷ xs) z h =
    let p = or_parts (outdoes costs x z) (list_any (λ (v : Measure C H). outdoes costs v z) xs) h in
    (p.0, none_outdoes-any costs xs z p.1)

pub any-none_outdoes : {C H : Type 0} (costs : Costs C) (xs : List (Measure C H)) (z : Measure C H) →
    NoneOutdoes costs xs z → list_any (λ x. outdoes costs x z) xs ≡ false
any-none_outdoes costs [] z h = refl
any-none_outdoes {C = C} {H = H} costs (x ∷ xs) z h =
    or_from (outdoes costs x z) (list_any (λ (v : Measure C H). outdoes costs v z) xs) h.0
    (any-none_outdoes costs xs z h.1)

any_step : {C H : Type 0} (costs : Costs C) (x z : Measure C H) (xs : List (Measure C H)) (b : Bool) →
    outdoes costs x z ≡ b →
    ((v : Measure C H) × IsMember v xs × (outdoes costs v z ≡ true)) ⊎ ⊤ →
    (b || list_any (λ v. outdoes costs v z) xs) ≡ true →
    ((v : Measure C H) × IsMember v xs × (outdoes costs v z ≡ true)) ⊎ (outdoes costs x z ≡ true)
    ⊎ (list_any (λ v. outdoes costs v z) xs ≡ true)
any_step costs x z xs true e f h = inr (inl e)
any_step costs x z xs false e f h = inr (inr h)

pub any_outdoes : {C H : Type 0} (costs : Costs C) (xs : List (Measure C H)) (z : Measure C H) →
    list_any (λ x. outdoes costs x z) xs ≡ true → (x : Measure C H) × IsMember x xs × (outdoes costs x z ≡ true)
unfolding IsMember
any_outdoes costs [] z h = cc
any_outdoes {C = C} {H = H} costs (x ∷ xs) z h =
    elim (any_step costs x z xs (outdoes costs x z) refl (inr tt) h) [
      | inl found ↦ (found.0, inr found.1, found.2)
      | inr other ↦ elim other [
        | inl here ↦ (x, inl refl, here)
        | inr later ↦ let found = any_outdoes costs xs z later in (found.0, inr found.1, found.2)
      ]
    ]

-- whether a measure stays before those that follow
unless_step : {C H : Type 0} (m z : Measure C H) (b : Bool) → IsMember z (cond b [] (m ∷ [])) → (z ≡ m) × (b ≡ false)
unfolding IsMember
unless_step m z true h = absurd h
unless_step m z false (inl e) = (e, refl)
unless_step m z false (inr h) = absurd h

step_unless : {C H : Type 0} (m : Measure C H) (b : Bool) → b ≡ false → IsMember m (cond b [] (m ∷ []))
unfolding IsMember
step_unless m true e = cc
step_unless m false e = inl refl

pub member-kept : {C H : Type 0} (costs : Costs C) (xs : List (Measure C H)) (z : Measure C H) →
    IsMember z (undominated costs xs) → Kept costs xs z
unfolding undominated IsMember
member-kept costs [] z h = h
member-kept {C = C} {H = H} costs (m ∷ xs) z h =
    elim (member-append z (unless_outdone costs m xs)
    (filter (λ (x : Measure C H). not (dominates costs m x)) (undominated costs xs)) h) [
      | inl p ↦
          let q = unless_step m z (list_any (λ (x : Measure C H). outdoes costs x m) xs) p in
          inl (q.0, none_outdoes-any costs xs m q.1)
      | inr p ↦
          let q = member-filter (λ (x : Measure C H). not (dominates costs m x)) z (undominated costs xs) p in
          inr (member-kept costs xs z q.0, not_true (dominates costs m z) q.1)
    ]

pub kept-member : {C H : Type 0} (costs : Costs C) (xs : List (Measure C H)) (z : Measure C H) → Kept costs xs z →
    IsMember z (undominated costs xs)
unfolding undominated IsMember
kept-member costs [] z h = h
kept-member {C = C} {H = H} costs (m ∷ xs) z (inl p) =
    member-left z (unless_outdone costs m xs)
    (filter (λ (x : Measure C H). not (dominates costs m x)) (undominated costs xs))
    (subst (λ (v : Measure C H). IsMember v (unless_outdone costs m xs)) (sym p.0)
    (step_unless m (list_any (λ (x : Measure C H). outdoes costs x m) xs) (any-none_outdoes costs xs m p.1)))
kept-member {C = C} {H = H} costs (m ∷ xs) z (inr p) =
    member-right z (unless_outdone costs m xs)
    (filter (λ (x : Measure C H). not (dominates costs m x)) (undominated costs xs))
    (filter-member (λ (x : Measure C H). not (dominates costs m x)) z (undominated costs xs)
    (kept-member costs xs z p.0) (not_from_false (dominates costs m z) p.1))

-- what stays is a member, and no member outdoes it
pub kept_is_member : {C H : Type 0} (costs : Costs C) (xs : List (Measure C H)) (z : Measure C H) → Kept costs xs z →
    IsMember z xs
unfolding IsMember
kept_is_member costs [] z h = h
kept_is_member costs (m ∷ xs) z (inl p) = inl p.0
kept_is_member costs (m ∷ xs) z (inr p) = inr (kept_is_member costs xs z p.0)

pub kept_is_not_outdone : {C H : Type 0} (costs : Costs C) (xs : List (Measure C H)) (z : Measure C H) →
    Kept costs xs z → NoneOutdoes costs xs z
kept_is_not_outdone costs [] z h = tt
kept_is_not_outdone {C = C} {H = H} costs (m ∷ xs) z (inl p) =
    subst (λ (v : Measure C H). NoneOutdoes costs (m ∷ xs) v) (sym p.0) (outdoes-itself costs m, p.1)
kept_is_not_outdone costs (m ∷ xs) z (inr p) = (outdoes-not costs m z p.1, kept_is_not_outdone costs xs z p.0)

pub none_outdoes-append : {C H : Type 0} (costs : Costs C) (xs ys : List (Measure C H)) (z : Measure C H) →
    NoneOutdoes costs (xs ++ ys) z → NoneOutdoes costs xs z × NoneOutdoes costs ys z
none_outdoes-append costs [] ys z h = (tt, h)
none_outdoes-append costs (x ∷ xs) ys z h = let p = none_outdoes-append costs xs ys z h.1 in ((h.0, p.0), p.1)

pub append-none_outdoes : {C H : Type 0} (costs : Costs C) (xs ys : List (Measure C H)) (z : Measure C H) →
    NoneOutdoes costs xs z → NoneOutdoes costs ys z → NoneOutdoes costs (xs ++ ys) z
append-none_outdoes costs [] ys z p q = q
append-none_outdoes costs (x ∷ xs) ys z p q = (p.0, append-none_outdoes costs xs ys z p.1 q)

-- what stays of two lists, one after the other
pub kept-append : {C H : Type 0} (costs : Costs C) (xs ys : List (Measure C H)) (z : Measure C H) →
    Kept costs (xs ++ ys) z →
    (Kept costs xs z × NoneOutdoes costs ys z) ⊎ (Kept costs ys z × NoneDominates costs xs z)
kept-append costs [] ys z h = inr (h, tt)
kept-append {C = C} {H = H} costs (m ∷ xs) ys z (inl p) =
    let q = none_outdoes-append costs xs ys m p.1 in
    inl (inl (p.0, q.0), subst (λ (v : Measure C H). NoneOutdoes costs ys v) (sym p.0) q.1)
kept-append costs (m ∷ xs) ys z (inr p) =
    elim (kept-append costs xs ys z p.0) [
      | inl q ↦ inl (inr (q.0, p.1), q.1)
      | inr q ↦ inr (q.0, (p.1, q.1))
    ]

pub kept-left : {C H : Type 0} (costs : Costs C) (xs ys : List (Measure C H)) (z : Measure C H) → Kept costs xs z →
    NoneOutdoes costs ys z → Kept costs (xs ++ ys) z
kept-left costs [] ys z h p = absurd h
kept-left {C = C} {H = H} costs (m ∷ xs) ys z (inl h) p =
    inl (h.0, append-none_outdoes costs xs ys m h.1 (subst (λ (v : Measure C H). NoneOutdoes costs ys v) h.0 p))
kept-left costs (m ∷ xs) ys z (inr h) p = inr (kept-left costs xs ys z h.0 p, h.1)

pub kept-right : {C H : Type 0} (costs : Costs C) (xs ys : List (Measure C H)) (z : Measure C H) → Kept costs ys z →
    NoneDominates costs xs z → Kept costs (xs ++ ys) z
kept-right costs [] ys z h p = h
kept-right costs (m ∷ xs) ys z h p = inr (kept-right costs xs ys z h p.1, p.0)

-- a member that stays and dominates x
abbrev pub Dominator : {C H : Type 0} → Costs C → List (Measure C H) → Measure C H → Type 0
Dominator {C} {H} costs xs x = (y : Measure C H) × Kept costs xs y × (dominates costs y x ≡ true)

kept_value : {C H : Type 0} (costs : Costs C) (xs : List (Measure C H)) (z : Measure C H) → EachIsValue costs xs →
    Kept costs xs z → IsValue costs z.cost
kept_value costs xs z v h = value_member costs z xs v (kept_is_member costs xs z h)

-- behind a measure m that stays, what is dominated by a member that stays
behind_kept : {C H : Type 0} (costs : Costs C) (laws : Lawful costs) (m x : Measure C H) (xs : List (Measure C H)) →
    IsValue costs m.cost → EachIsValue costs xs → IsValue costs x.cost → NoneOutdoes costs xs m → Dominator costs xs x →
    Dominator costs (m ∷ xs) x
behind_kept costs laws m x xs u v w p d =
    elim (cases_Bool (dominates costs m d.0)) [
      | inl h ↦ (m, inl (refl, p), dominates-trans costs laws m d.0 x u (kept_value costs xs d.0 v d.1) w h d.2)
      | inr h ↦ (d.0, inr (d.1, h), d.2)
    ]

-- behind a measure m that w outdoes, the measure that stays and dominates w isn't dominated by m
above_outdone : {C H : Type 0} (costs : Costs C) (laws : Lawful costs) (m w y : Measure C H) →
    IsValue costs m.cost → IsValue costs w.cost → IsValue costs y.cost → outdoes costs w m ≡ true →
    dominates costs y w ≡ true → dominates costs m y ≡ false
above_outdone costs laws m w y u v k p q =
    let o = outdoes-is costs w m p in
    elim (cases_Bool (dominates costs m y)) [
      | inr h ↦ h
      | inl h ↦ true_not_false (dominates costs m w) (dominates-trans costs laws m y w u k v h q) o.1
    ]

behind_outdone : {C H : Type 0} (costs : Costs C) (laws : Lawful costs) (m w x : Measure C H)
    (xs : List (Measure C H)) →
    IsValue costs m.cost → EachIsValue costs xs → IsValue costs w.cost → IsValue costs x.cost →
    outdoes costs w m ≡ true →
    Dominator costs xs w → Dominator costs xs x → Dominator costs (m ∷ xs) x
behind_outdone costs laws m w x xs u v k l p d e =
    let du = kept_value costs xs d.0 v d.1 in
    let eu = kept_value costs xs e.0 v e.1 in
    let o = outdoes-is costs w m p in
    elim (cases_Bool (dominates costs m e.0)) [
      | inr h ↦ (e.0, inr (e.1, h), e.2)
      | inl h ↦
          let to_m : dominates costs d.0 m ≡ true = dominates-trans costs laws d.0 w m du k u d.2 o.0 in
          let to_x : dominates costs d.0 x ≡ true =
          dominates-trans costs laws d.0 m x du u l to_m (dominates-trans costs laws m e.0 x u eu l h e.2) in
          (d.0, inr (d.1, above_outdone costs laws m w d.0 u k du p d.2), to_x)
    ]

first_outdone : {C H : Type 0} (costs : Costs C) (laws : Lawful costs) (m w : Measure C H) (xs : List (Measure C H)) →
    IsValue costs m.cost → EachIsValue costs xs → IsValue costs w.cost → outdoes costs w m ≡ true →
    Dominator costs xs w → Dominator costs (m ∷ xs) m
first_outdone costs laws m w xs u v k p d =
    let du = kept_value costs xs d.0 v d.1 in
    let o = outdoes-is costs w m p in
    (d.0, inr (d.1, above_outdone costs laws m w d.0 u k du p d.2), dominates-trans costs laws d.0 w m du k u d.2 o.0)

-- each member is dominated by one that stays
pub kept_dominates : {C H : Type 0} (costs : Costs C) (laws : Lawful costs) (xs : List (Measure C H))
    (x : Measure C H) →
    EachIsValue costs xs → IsMember x xs → Dominator costs xs x
unfolding IsMember EachIsValue
kept_dominates costs laws [] x v h = absurd h
kept_dominates {C = C} {H = H} costs laws (m ∷ xs) x v (inl e) =
    subst (λ (z : Measure C H). Dominator costs (m ∷ xs) z) (sym e)
    (elim (cases_Bool (list_any (λ (z : Measure C H). outdoes costs z m) xs)) [
      | inr h ↦ (m, inl (refl, none_outdoes-any costs xs m h), dominates-refl costs laws m v.0)
      | inl h ↦
          let w = any_outdoes costs xs m h in
          first_outdone costs laws m w.0 xs v.0 v.1 (value_member costs w.0 xs v.1 w.1) w.2
          (kept_dominates costs laws xs w.0 v.1 w.1)
    ])
kept_dominates {C = C} {H = H} costs laws (m ∷ xs) x v (inr k) =
    let xv = value_member costs x xs v.1 k in
    elim (cases_Bool (list_any (λ (z : Measure C H). outdoes costs z m) xs)) [
      | inr h ↦
          behind_kept costs laws m x xs v.0 v.1 xv (none_outdoes-any costs xs m h)
          (kept_dominates costs laws xs x v.1 k)
      | inl h ↦
          let w = any_outdoes costs xs m h in
          behind_outdone costs laws m w.0 x xs v.0 v.1 (value_member costs w.0 xs v.1 w.1) xv w.2
          (kept_dominates costs laws xs w.0 v.1 w.1) (kept_dominates costs laws xs x v.1 k)
    ]
