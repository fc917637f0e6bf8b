-- Members of lists of measures, and lists by falling last column.
use Rattle.std.proofs.Common.{◌≡◌, ℕ, suc, length, ◌≤◌, ◌∙◌, ap, ◌<◌, ◌≢◌, Bool, true, false, cond, List, [], ◌∷◌, ◌++◌, refl, sym, subst, ◌⊎◌, inl, inr, arith}
use Rattle.std.specs.Prelude.{nat_le, filter, ⊤}
use Rattle.rf_base_cost.specs.declared.measures.Measure.{Measure}
use Rattle.rf_base_cost.specs.Cost.{Costs, IsValue}
use Rattle.rf_base_cost.specs.Pareto.{placed, by_last, IsMember, EachIsValue}
use Rattle.rf_base_cost.proofs.Dominance.{nat_le-true, nat_le-false}

pub member-append : {A : Type 0} (z : A) (xs ys : List A) → IsMember z (xs ++ ys) → IsMember z xs ⊎ IsMember z ys
unfolding IsMember
member-append z [] ys h = inr h
member-append z (x ∷ xs) ys (inl e) = inl (inl e)
member-append z (x ∷ xs) ys (inr h) = elim (member-append z xs ys h) [ inl p ↦ inl (inr p) | inr p ↦ inr p ]

pub member-left : {A : Type 0} (z : A) (xs ys : List A) → IsMember z xs → IsMember z (xs ++ ys)
unfolding IsMember
member-left z [] ys h = absurd h
member-left z (x ∷ xs) ys (inl e) = inl e
member-left z (x ∷ xs) ys (inr h) = inr (member-left z xs ys h)

pub member-right : {A : Type 0} (z : A) (xs ys : List A) → IsMember z ys → IsMember z (xs ++ ys)
unfolding IsMember
member-right z [] ys h = h
member-right z (x ∷ xs) ys h = inr (member-right z xs ys h)

filter_step : {A : Type 0} (p : A → Bool) (z x : A) (rest : List A) (b : Bool) → p x ≡ b →
    IsMember z (cond b (x ∷ rest) rest) →
    ((z ≡ x) × (p z ≡ true)) ⊎ IsMember z rest
unfolding IsMember
filter_step p z x rest true e (inl q) = inl (q, subst (λ v. p v ≡ true) (sym q) e)
filter_step p z x rest true e (inr h) = inr h
filter_step p z x rest false e h = inr h

pub member-filter : {A : Type 0} (p : A → Bool) (z : A) (xs : List A) → IsMember z (filter p xs) →
    IsMember z xs × (p z ≡ true)
unfolding IsMember
member-filter p z [] h = absurd h
member-filter p z (x ∷ xs) h =
    elim (filter_step p z x (filter p xs) (p x) refl h) [
      | inl q ↦ (inl q.0, q.1)
      | inr q ↦ let r = member-filter p z xs q in (inr r.0, r.1)
    ]

step_filter : {A : Type 0} (p : A → Bool) (z x : A) (rest : List A) (b : Bool) → p x ≡ b → p z ≡ true →
    (z ≡ x) ⊎ IsMember z rest →
    IsMember z (cond b (x ∷ rest) rest)
unfolding IsMember
step_filter p z x rest true e t h = h
step_filter p z x rest false e t (inl q) = let f : p z ≡ false = subst (λ v. p v ≡ false) (sym q) e in cc
step_filter p z x rest false e t (inr h) = h

pub filter-member : {A : Type 0} (p : A → Bool) (z : A) (xs : List A) → IsMember z xs → p z ≡ true →
    IsMember z (filter p xs)
unfolding IsMember
filter-member p z [] h t = absurd h
filter-member p z (x ∷ xs) (inl e) t = step_filter p z x (filter p xs) (p x) refl t (inl e)
filter-member p z (x ∷ xs) (inr h) t = step_filter p z x (filter p xs) (p x) refl t (inr (filter-member p z xs h t))

-- each of the measures ends further left than m
abbrev pub EachLeft : {C H : Type 0} → Measure C H → List (Measure C H) → Type 0
EachLeft m [] = ⊤
EachLeft m (x ∷ rest) = (x.last < m.last) × EachLeft m rest

-- the last columns strictly fall
abbrev pub Falls : {C H : Type 0} → List (Measure C H) → Type 0
Falls [] = ⊤
Falls (m ∷ rest) = EachLeft m rest × Falls rest

pub left_member : {C H : Type 0} (m z : Measure C H) (xs : List (Measure C H)) → EachLeft m xs → IsMember z xs →
    z.last < m.last
unfolding IsMember
left_member {C = C} {H = H} m z [] p h = absurd h
left_member {C = C} {H = H} m z (x ∷ xs) p (inl e) = subst (λ (v : Measure C H). v.last < m.last) (sym e) p.0
left_member {C = C} {H = H} m z (x ∷ xs) p (inr h) = left_member m z xs p.1 h

pub left_from : {C H : Type 0} (m : Measure C H) (xs : List (Measure C H)) →
    ((z : Measure C H) → IsMember z xs → z.last < m.last) → EachLeft m xs
unfolding IsMember
left_from m [] f = tt
left_from m (x ∷ xs) f = (f x (inl refl), left_from m xs (λ z h. f z (inr h)))

pub left_trans : {C H : Type 0} (m n : Measure C H) (xs : List (Measure C H)) → n.last ≤ m.last → EachLeft n xs →
    EachLeft m xs
left_trans m n [] p h = tt
left_trans m n (x ∷ xs) p h = let q : x.last < n.last = h.0 in (omega arith, left_trans m n xs p h.1)

-- two falling lists with the same members are the same
pub same_members : {C H : Type 0} (xs ys : List (Measure C H)) → Falls xs → Falls ys →
    ((z : Measure C H) → IsMember z xs → IsMember z ys) → ((z : Measure C H) → IsMember z ys → IsMember z xs) → xs ≡ ys
unfolding IsMember
same_members {C = C} {H = H} [] [] p q f g = refl
same_members {C = C} {H = H} [] (y ∷ ys) p q f g = absurd (g y (inl refl))
same_members {C = C} {H = H} (x ∷ xs) [] p q f g = absurd (f x (inl refl))
same_members {C = C} {H = H} (x ∷ xs) (y ∷ ys) p q f g =
    let head : x ≡ y =
    elim (f x (inl refl)) [
      | inl e ↦ e
      | inr h ↦ elim (g y (inl refl)) [
        | inl e ↦ sym e
        | inr k ↦
            let one : x.last < y.last = left_member y x ys q.0 h in
            let two : y.last < x.last = left_member x y xs p.0 k in
            absurd (omega arith)
      ]
    ] in
    let tail : xs ≡ ys =
    same_members xs ys p.1 q.1
    (λ z h. elim (f z (inr h)) [
      | inl e ↦
          let one : z.last < x.last = left_member x z xs p.0 h in
          let two : z.last ≡ x.last = ap (λ (v : Measure C H). v.last) (e ∙ sym head) in
          absurd (omega arith)
      | inr k ↦ k
    ])
    (λ z h. elim (g z (inr h)) [
      | inl e ↦
          let one : z.last < y.last = left_member y z ys q.0 h in
          let two : z.last ≡ y.last = ap (λ (v : Measure C H). v.last) (e ∙ head) in
          absurd (omega arith)
      | inr k ↦ k
    ]) in
    cc

-- each of the measures ends elsewhere than m
abbrev pub EachElsewhere : {C H : Type 0} → Measure C H → List (Measure C H) → Type 0
EachElsewhere m [] = ⊤
EachElsewhere m (x ∷ rest) = (x.last ≢ m.last) × EachElsewhere m rest

-- no two of the measures end at one column
abbrev pub AllElsewhere : {C H : Type 0} → List (Measure C H) → Type 0
AllElsewhere [] = ⊤
AllElsewhere (m ∷ rest) = EachElsewhere m rest × AllElsewhere rest

pub elsewhere_from : {C H : Type 0} (m : Measure C H) (xs : List (Measure C H)) →
    ((z : Measure C H) → IsMember z xs → z.last ≢ m.last) → EachElsewhere m xs
unfolding IsMember
elsewhere_from m [] f = tt
elsewhere_from m (x ∷ xs) f = (f x (inl refl), elsewhere_from m xs (λ z h. f z (inr h)))

elsewhere_member : {C H : Type 0} (m z : Measure C H) (xs : List (Measure C H)) → EachElsewhere m xs → IsMember z xs →
    z.last ≢ m.last
unfolding IsMember
elsewhere_member {C = C} {H = H} m z [] p h = absurd h
elsewhere_member {C = C} {H = H} m z (x ∷ xs) p (inl e) = subst (λ (v : Measure C H). v.last ≢ m.last) (sym e) p.0
elsewhere_member {C = C} {H = H} m z (x ∷ xs) p (inr h) = elsewhere_member m z xs p.1 h

placed_step : {C H : Type 0} (m z x : Measure C H) (rest more : List (Measure C H)) (b : Bool) →
    (IsMember z more → (z ≡ m) ⊎ IsMember z rest) → IsMember z (cond b (m ∷ x ∷ rest) (x ∷ more)) →
    (z ≡ m) ⊎ IsMember z (x ∷ rest)
unfolding IsMember
placed_step m z x rest more true f (inl e) = inl e
placed_step m z x rest more true f (inr h) = inr h
placed_step m z x rest more false f (inl e) = inr (inl e)
placed_step m z x rest more false f (inr h) = elim (f h) [ inl e ↦ inl e | inr k ↦ inr (inr k) ]

pub member-placed : {C H : Type 0} (m z : Measure C H) (xs : List (Measure C H)) → IsMember z (placed m xs) →
    (z ≡ m) ⊎ IsMember z xs
unfolding placed IsMember
member-placed m z [] h = h
member-placed m z (x ∷ xs) h = placed_step m z x xs (placed m xs) (nat_le x.last m.last) (member-placed m z xs) h

step_placed : {C H : Type 0} (m z x : Measure C H) (rest more : List (Measure C H)) (b : Bool) →
    ((z ≡ m) ⊎ IsMember z rest → IsMember z more) → (z ≡ m) ⊎ IsMember z (x ∷ rest) →
    IsMember z (cond b (m ∷ x ∷ rest) (x ∷ more))
unfolding IsMember
step_placed m z x rest more true f h = h
step_placed m z x rest more false f (inl e) = inr (f (inl e))
step_placed m z x rest more false f (inr (inl e)) = inl e
step_placed m z x rest more false f (inr (inr h)) = inr (f (inr h))

pub placed-member : {C H : Type 0} (m z : Measure C H) (xs : List (Measure C H)) → (z ≡ m) ⊎ IsMember z xs →
    IsMember z (placed m xs)
unfolding placed IsMember
placed-member m z [] h = h
placed-member m z (x ∷ xs) h = step_placed m z x xs (placed m xs) (nat_le x.last m.last) (placed-member m z xs) h

pub member-by_last : {C H : Type 0} (z : Measure C H) (xs : List (Measure C H)) → IsMember z (by_last xs) →
    IsMember z xs
unfolding by_last IsMember
member-by_last z [] h = h
member-by_last z (x ∷ xs) h =
    elim (member-placed x z (by_last xs) h) [ inl e ↦ inl e | inr k ↦ inr (member-by_last z xs k) ]

pub by_last-member : {C H : Type 0} (z : Measure C H) (xs : List (Measure C H)) → IsMember z xs →
    IsMember z (by_last xs)
unfolding by_last IsMember
by_last-member z [] h = h
by_last-member z (x ∷ xs) (inl e) = placed-member x z (by_last xs) (inl e)
by_last-member z (x ∷ xs) (inr h) = placed-member x z (by_last xs) (inr (by_last-member z xs h))

falls_step : {C H : Type 0} (m x : Measure C H) (rest more : List (Measure C H)) (b : Bool) → nat_le x.last m.last ≡ b →
    x.last ≢ m.last → EachLeft x rest → Falls rest → Falls more →
    ((z : Measure C H) → IsMember z more → (z ≡ m) ⊎ IsMember z rest) →
    Falls (cond b (m ∷ x ∷ rest) (x ∷ more))
falls_step {C = C} {H = H} m x rest more true e n p q r f =
    let less : x.last ≤ m.last = nat_le-true x.last m.last e in
    ((omega arith, left_trans m x rest less p), (p, q))
falls_step {C = C} {H = H} m x rest more false e n p q r f =
    let less : m.last < x.last = nat_le-false x.last m.last e in (
      left_from x more (λ z h. elim (f z h) [
        | inl k ↦ subst (λ (v : Measure C H). v.last < x.last) (sym k) less
        | inr k ↦ left_member x z rest p k
      ]),
      r,
    )

pub placed-falls : {C H : Type 0} (m : Measure C H) (xs : List (Measure C H)) → EachElsewhere m xs → Falls xs →
    Falls (placed m xs)
unfolding placed
placed-falls m [] p q = (tt, tt)
placed-falls m (x ∷ xs) p q =
    falls_step m x xs (placed m xs) (nat_le x.last m.last) refl p.0 q.0 q.1 (placed-falls m xs p.1 q.1)
    (λ z h. member-placed m z xs h)

pub by_last-falls : {C H : Type 0} (xs : List (Measure C H)) → AllElsewhere xs → Falls (by_last xs)
unfolding by_last
by_last-falls [] p = tt
by_last-falls (x ∷ xs) p =
    placed-falls x (by_last xs) (elsewhere_from x (by_last xs)
    (λ z h. elsewhere_member x z xs p.0 (member-by_last z xs h))) (by_last-falls xs p.1)

pub value_member : {C H : Type 0} (costs : Costs C) (z : Measure C H) (xs : List (Measure C H)) → EachIsValue costs xs →
    IsMember z xs → IsValue costs z.cost
unfolding EachIsValue IsMember
value_member {C = C} {H = H} costs z [] v h = absurd h
value_member {C = C} {H = H} costs z (x ∷ xs) v (inl e) = subst (λ (m : Measure C H). IsValue costs m.cost) (sym e) v.0
value_member {C = C} {H = H} costs z (x ∷ xs) v (inr h) = value_member costs z xs v.1 h

pub value_from : {C H : Type 0} (costs : Costs C) (xs : List (Measure C H)) →
    ((z : Measure C H) → IsMember z xs → IsValue costs z.cost) → EachIsValue costs xs
unfolding EachIsValue IsMember
value_from costs [] f = tt
value_from costs (x ∷ xs) f = (f x (inl refl), value_from costs xs (λ z h. f z (inr h)))

pub value_append : {C H : Type 0} (costs : Costs C) (xs ys : List (Measure C H)) → EachIsValue costs xs →
    EachIsValue costs ys → EachIsValue costs (xs ++ ys)
unfolding EachIsValue
value_append costs [] ys p q = q
value_append costs (x ∷ xs) ys p q = (p.0, value_append costs xs ys p.1 q)

length_step : {C H : Type 0} (m x : Measure C H) (xs more : List (Measure C H)) (b : Bool) →
    length more ≡ suc (length xs) → length (cond b (m ∷ x ∷ xs) (x ∷ more)) ≡ suc (suc (length xs))
length_step m x xs more true e = refl
length_step m x xs more false e = ap suc e

placed-length : {C H : Type 0} (m : Measure C H) (xs : List (Measure C H)) → length (placed m xs) ≡ suc (length xs)
unfolding placed
placed-length m [] = refl
placed-length m (x ∷ xs) = length_step m x xs (placed m xs) (nat_le x.last m.last) (placed-length m xs)

pub by_last-length : {C H : Type 0} (xs : List (Measure C H)) → length (by_last xs) ≡ length xs
unfolding by_last
by_last-length [] = refl
by_last-length (x ∷ xs) = placed-length x (by_last xs) ∙ ap suc (by_last-length xs)

shorter_step : {A : Type 0} (x : A) (xs : List A) (n : ℕ) (b : Bool) → length xs ≤ n →
    length (cond b (x ∷ xs) xs) ≤ suc n
shorter_step x xs n true p = omega arith
shorter_step x xs n false p = omega arith

pub filter-shorter : {A : Type 0} (p : A → Bool) (xs : List A) → length (filter p xs) ≤ length xs
filter-shorter p [] = omega arith
filter-shorter p (x ∷ xs) = shorter_step x (filter p xs) (length xs) (p x) (filter-shorter p xs)
