-- Frontiers cut short.
use Rattle.std.proofs.Common.{◌≡◌, ℕ, ◌<◌, ◌≤◌, Bool, true, false, cond, List, [], ◌∷◌, map, refl, sym, ◌∙◌, ap, inl, inr, arith}
use Rattle.std.specs.Prelude.{nat_le, slice_get}
use Rattle.rf_base_cost.specs.declared.measures.Measure.{Measure}
use Rattle.rf_base_cost.specs.Cost.{Costs}
use Rattle.rf_base_cost.specs.Pareto.{IsMember, EachFollows, IsFrontier, EachIsValue}
use Rattle.rf_base_cost.proofs.Dominance.{nat_le-true, true_le}
use Rattle.rf_base_cost.proofs.Members.{EachLeft, Falls}
use Rattle.rf_base_optimum.specs.Plain.{EachEndsBy}
use Rattle.rf_base_optimum.proofs.Frontier.{ends_member, ends_from}
use Rattle.rf_base_cut.specs.Cut.{cut}

-- what follows a measure that ends at 0 is nothing
nothing_follows : {C H : Type 0} (costs : Costs C) (m : Measure C H) (xs : List (Measure C H)) → m.last ≤ 0 →
    EachFollows costs m xs → [] ≡ xs
unfolding EachFollows
nothing_follows costs m [] p h = refl
nothing_follows costs m (x ∷ xs) p h = let less : x.last < m.last = h.0 in absurd (omega arith)

cut_step : {C H : Type 0} (m : Measure C H) (rest xs : List (Measure C H)) (b : Bool) → (b ≡ true → [] ≡ rest) →
    xs ≡ rest → m ∷ cond b [] xs ≡ m ∷ rest
cut_step {C = C} {H = H} m rest xs true f e = ap (λ (z : List (Measure C H)). m ∷ z) (f refl)
cut_step {C = C} {H = H} m rest xs false f e = ap (λ (z : List (Measure C H)). m ∷ z) e

-- a frontier cut at 0 is whole
pub nothing_cut : {C H : Type 0} (costs : Costs C) (xs : List (Measure C H)) → IsFrontier costs xs → cut 0 xs ≡ xs
unfolding cut IsFrontier
nothing_cut costs [] h = refl
nothing_cut costs (x ∷ xs) h =
    cut_step x xs (cut 0 xs) (nat_le x.last 0) (λ e. nothing_follows costs x xs (nat_le-true x.last 0 e) h.0)
    (nothing_cut costs xs h.1)

-- what is cut still falls, and is still of values and a frontier
cut_left : {C H : Type 0} (x : ℕ) (m : Measure C H) (xs : List (Measure C H)) → EachLeft m xs → EachLeft m (cut x xs)
unfolding cut
cut_left x m [] h = tt
cut_left x m (y ∷ ys) h = (h.0, left_step m (cut x ys) (nat_le y.last x) (cut_left x m ys h.1))
  where
    left_step : {C H : Type 0} (m : Measure C H) (xs : List (Measure C H)) (b : Bool) → EachLeft m xs →
        EachLeft m (cond b [] xs)
    left_step m xs true h = tt
    left_step m xs false h = h

pub cut_falls : {C H : Type 0} (x : ℕ) (xs : List (Measure C H)) → Falls xs → Falls (cut x xs)
unfolding cut
cut_falls x [] h = tt
cut_falls x (y ∷ ys) h = fall_step y (cut x ys) (nat_le y.last x) (cut_left x y ys h.0) (cut_falls x ys h.1)
  where
    fall_step : {C H : Type 0} (m : Measure C H) (xs : List (Measure C H)) (b : Bool) → EachLeft m xs → Falls xs →
        Falls (m ∷ cond b [] xs)
    fall_step m xs true h k = (tt, tt)
    fall_step m xs false h k = (h, k)

pub cut_values : {C H : Type 0} (costs : Costs C) (x : ℕ) (xs : List (Measure C H)) → EachIsValue costs xs →
    EachIsValue costs (cut x xs)
unfolding cut EachIsValue
cut_values costs x [] h = tt
cut_values costs x (y ∷ ys) h = (h.0, value_step costs (cut x ys) (nat_le y.last x) (cut_values costs x ys h.1))
  where
    value_step : {C H : Type 0} (costs : Costs C) (xs : List (Measure C H)) (b : Bool) → EachIsValue costs xs →
        EachIsValue costs (cond b [] xs)
    value_step costs xs true h = tt
    value_step costs xs false h = h

pub cut_follows : {C H : Type 0} (costs : Costs C) (x : ℕ) (m : Measure C H) (xs : List (Measure C H)) →
    EachFollows costs m xs → EachFollows costs m (cut x xs)
unfolding cut EachFollows
cut_follows costs x m [] h = tt
cut_follows costs x m (y ∷ ys) h = (
  h.0,
  h.1,
  follow_step costs m (cut x ys) (nat_le y.last x) (cut_follows costs x m ys h.2),
)
  where
    follow_step : {C H : Type 0} (costs : Costs C) (m : Measure C H) (xs : List (Measure C H)) (b : Bool) →
        EachFollows costs m xs → EachFollows costs m (cond b [] xs)
    follow_step costs m xs true h = tt
    follow_step costs m xs false h = h

pub cut_frontier : {C H : Type 0} (costs : Costs C) (x : ℕ) (xs : List (Measure C H)) → IsFrontier costs xs →
    IsFrontier costs (cut x xs)
unfolding cut IsFrontier EachFollows
cut_frontier costs x [] h = tt
cut_frontier costs x (y ∷ ys) h =
    frontier_step costs y (cut x ys) (nat_le y.last x) (cut_follows costs x y ys h.0) (cut_frontier costs x ys h.1)
  where
    frontier_step : {C H : Type 0} (costs : Costs C) (m : Measure C H) (xs : List (Measure C H)) (b : Bool) →
        EachFollows costs m xs → IsFrontier costs xs → IsFrontier costs (m ∷ cond b [] xs)
    frontier_step costs m xs true h k = (tt, tt)
    frontier_step costs m xs false h k = (h, k)

-- cutting looks at last columns alone
pub cut_mapped : {C H K : Type 0} (x : ℕ) (f : Measure C H → Measure C K) (xs : List (Measure C H)) →
    ((m : Measure C H) → (f m).last ≡ m.last) → cut x (map f xs) ≡ map f (cut x xs)
unfolding cut
cut_mapped x f [] e = refl
cut_mapped {C = C} {H = H} {K = K} x f (y ∷ ys) e =
    ap (λ (n : ℕ). f y ∷ cond (nat_le n x) [] (cut x (map f ys))) (e y)
    ∙ map_step f y (cut x ys) (cut x (map f ys)) (nat_le y.last x) (cut_mapped x f ys e)
  where
    map_step : {C H K : Type 0} (f : Measure C H → Measure C K) (y : Measure C H) (xs : List (Measure C H))
        (zs : List (Measure C K)) (b : Bool) → zs ≡ map f xs →
        f y ∷ cond b [] zs ≡ map f (y ∷ cond b [] xs)
    map_step f y xs zs true e = refl
    map_step {C = C} {K = K} f y xs zs false e = ap (λ (z : List (Measure C K)). f y ∷ z) e

-- what was cut further right can be cut further
pub cut_again : {C H : Type 0} (x y : ℕ) (xs : List (Measure C H)) → y ≤ x → cut x (cut y xs) ≡ cut x xs
unfolding cut
cut_again x y [] p = refl
cut_again x y (m ∷ xs) p =
    again_step x m (cut y xs) xs (nat_le m.last y)
    (λ e. let less : m.last ≤ y = nat_le-true m.last y e in true_le m.last x (omega arith)) (cut_again x y xs p)
  where
    again_step : {C H : Type 0} (x : ℕ) (m : Measure C H) (short xs : List (Measure C H)) (b : Bool) →
        (b ≡ true → nat_le m.last x ≡ true) → cut x short ≡ cut x xs →
        m ∷ cond (nat_le m.last x) [] (cut x (cond b [] short)) ≡ m ∷ cond (nat_le m.last x) [] (cut x xs)
    again_step {C = C} {H = H} x m short xs true f e =
        let yes = f refl in
        let none : List (Measure C H) = [] in
        ap (λ (c : Bool). m ∷ cond c [] (cut x none)) yes ∙ sym (ap (λ (c : Bool). m ∷ cond c [] (cut x xs)) yes)
    again_step {C = C} {H = H} x m short xs false f e =
        ap (λ (z : List (Measure C H)). m ∷ cond (nat_le m.last x) [] z) e

pub member_of_all : {C H : Type 0} (x : ℕ) (z : Measure C H) (xs : List (Measure C H)) → IsMember z (cut x xs) →
    IsMember z xs
unfolding cut IsMember
member_of_all x z [] h = h
member_of_all x z (y ∷ ys) h = member_step z y (cut x ys) ys (nat_le y.last x) (λ k. member_of_all x z ys k) h
  where
    member_step : {C H : Type 0} (z y : Measure C H) (short ys : List (Measure C H)) (b : Bool) →
        (IsMember z short → IsMember z ys) →
        IsMember z (y ∷ cond b [] short) → IsMember z (y ∷ ys)
    member_step z y short ys b f (inl e) = inl e
    member_step z y short ys true f (inr h) = absurd h
    member_step z y short ys false f (inr h) = inr (f h)

-- the first measure is never cut off, and where it ends by the column the others are
pub cut_first : {C H : Type 0} (w : ℕ) (m : Measure C H) (rest : List (Measure C H)) → m.last ≤ w →
    cut w (m ∷ rest) ≡ m ∷ []
unfolding cut
cut_first {C = C} {H = H} w m rest p = ap (λ (b : Bool). m ∷ cond b [] (cut w rest)) (true_le m.last w p)

pub first_stays : {C H : Type 0} (x : ℕ) (xs : List (Measure C H)) → slice_get (cut x xs) 0 ≡ slice_get xs 0
unfolding cut
first_stays x [] = refl
first_stays x (m ∷ xs) = refl

-- what is cut ends where all did
pub cut_ends : {C H : Type 0} (w x : ℕ) (xs : List (Measure C H)) → EachEndsBy w xs → EachEndsBy w (cut x xs)
cut_ends w x xs h = ends_from w (cut x xs) (λ z l. ends_member w z xs h (member_of_all x z xs l))
