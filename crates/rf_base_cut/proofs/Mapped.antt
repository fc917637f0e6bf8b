-- Frontiers of measures that are each changed so that they end where they ended and keep the order of their costs.
use Rattle.std.proofs.Common.{◌≡◌, ℕ, ◌<◌, Bool, false, ◌&&◌, not, List, [], ◌∷◌, map, refl, sym, ◌∙◌, ap, ap₂, subst, inl, inr, arith}
use Rattle.std.specs.Prelude.{nat_le}
use Rattle.rf_base_cost.specs.declared.measures.Measure.{Measure}
use Rattle.rf_base_cost.specs.Cost.{Costs, Lawful}
use Rattle.rf_base_cost.specs.Pareto.{dominates, outdoes, pareto, IsMember, EachIsValue}
use Rattle.rf_base_cost.proofs.Members.{EachLeft, Falls, same_members}
use Rattle.rf_base_cost.proofs.Kept.{NoneOutdoes, Kept, kept_is_member}
use Rattle.rf_base_cost.proofs.Pareto.{member-pareto, pareto-member, pareto-falls}
use Rattle.rf_base_optimum.proofs.Pruning.{map_member, member_map}

-- the change leaves last columns as they are
abbrev pub KeepsLasts : {C H : Type 0} → (Measure C H → Measure C H) → Type 0
KeepsLasts {C} {H} f = (m : Measure C H) → (f m).last ≡ m.last

-- it leaves the order of these measures' costs as it is
abbrev pub KeepsOrder : {C H : Type 0} → Costs C → (Measure C H → Measure C H) → List (Measure C H) → Type 0
KeepsOrder {C} {H} costs f xs =
    (x y : Measure C H) → IsMember x xs → IsMember y xs → costs.le (f x).cost (f y).cost ≡ costs.le x.cost y.cost

dominates_mapped : {C H : Type 0} (costs : Costs C) (f : Measure C H → Measure C H) (xs : List (Measure C H))
    (x y : Measure C H) → KeepsLasts f → KeepsOrder costs f xs →
    IsMember x xs → IsMember y xs → dominates costs (f x) (f y) ≡ dominates costs x y
dominates_mapped costs f xs x y e g h k =
    ap₂ (λ (b c : Bool). b && c) (ap₂ (λ (i j : ℕ). nat_le i j) (e x) (e y)) (g x y h k)

outdoes_mapped : {C H : Type 0} (costs : Costs C) (f : Measure C H → Measure C H) (xs : List (Measure C H))
    (x y : Measure C H) → KeepsLasts f → KeepsOrder costs f xs →
    IsMember x xs → IsMember y xs → outdoes costs (f x) (f y) ≡ outdoes costs x y
outdoes_mapped costs f xs x y e g h k =
    ap₂ (λ (b c : Bool). b && not c) (dominates_mapped costs f xs x y e g h k) (dominates_mapped costs f xs y x e g k h)

widen : {A : Type 0} (z x a : A) (xs : List A) → IsMember a (z ∷ xs) → IsMember a (z ∷ x ∷ xs)
unfolding IsMember
widen z x a xs (inl e) = inl e
widen z x a xs (inr h) = inr (inr h)

none_mapped : {C H : Type 0} (costs : Costs C) (f : Measure C H → Measure C H) (z : Measure C H)
    (xs : List (Measure C H)) → KeepsLasts f → KeepsOrder costs f (z ∷ xs) →
    NoneOutdoes costs xs z → NoneOutdoes costs (map f xs) (f z)
unfolding IsMember
none_mapped costs f z [] e g h = tt
none_mapped costs f z (x ∷ xs) e g h = (
  outdoes_mapped costs f (z ∷ x ∷ xs) x z e g (inr (inl refl)) (inl refl) ∙ h.0,
  none_mapped costs f z xs e (λ a b i j. g a b (widen z x a xs i) (widen z x b xs j)) h.1,
)

none_unmapped : {C H : Type 0} (costs : Costs C) (f : Measure C H → Measure C H) (z : Measure C H)
    (xs : List (Measure C H)) → KeepsLasts f → KeepsOrder costs f (z ∷ xs) →
    NoneOutdoes costs (map f xs) (f z) → NoneOutdoes costs xs z
unfolding IsMember
none_unmapped costs f z [] e g h = tt
none_unmapped costs f z (x ∷ xs) e g h = (
  sym (outdoes_mapped costs f (z ∷ x ∷ xs) x z e g (inr (inl refl)) (inl refl)) ∙ h.0,
  none_unmapped costs f z xs e (λ a b i j. g a b (widen z x a xs i) (widen z x b xs j)) h.1,
)

-- what stays, changed, stays of the changed measures, and nothing else does
kept_mapped : {C H : Type 0} (costs : Costs C) (f : Measure C H → Measure C H) (z : Measure C H)
    (xs : List (Measure C H)) → KeepsLasts f → KeepsOrder costs f xs →
    Kept costs xs z → Kept costs (map f xs) (f z)
unfolding IsMember
kept_mapped costs f z [] e g h = h
kept_mapped costs f z (m ∷ xs) e g (inl h) = inl (ap f h.0, none_mapped costs f m xs e g h.1)
kept_mapped costs f z (m ∷ xs) e g (inr h) =
    inr (
      kept_mapped costs f z xs e (λ a b i j. g a b (inr i) (inr j)) h.0,
      dominates_mapped costs f (m ∷ xs) m z e g (inl refl) (inr (kept_is_member costs xs z h.0)) ∙ h.1,
    )

kept_unmapped : {C H : Type 0} (costs : Costs C) (f : Measure C H → Measure C H) (z : Measure C H)
    (xs : List (Measure C H)) → KeepsLasts f → KeepsOrder costs f xs →
    Kept costs (map f xs) z → (u : Measure C H) × Kept costs xs u × (z ≡ f u)
unfolding IsMember
kept_unmapped costs f z [] e g h = absurd h
kept_unmapped costs f z (m ∷ xs) e g (inl h) = (m, inl (refl, none_unmapped costs f m xs e g h.1), h.0)
kept_unmapped {C = C} {H = H} costs f z (m ∷ xs) e g (inr h) =
    let found = kept_unmapped costs f z xs e (λ a b i j. g a b (inr i) (inr j)) h.0 in
    let not_above : dominates costs (f m) (f found.0) ≡ false =
    subst (λ (u : Measure C H). dominates costs (f m) u ≡ false) found.2 h.1 in
    let same =
    dominates_mapped costs f (m ∷ xs) m found.0 e g (inl refl) (inr (kept_is_member costs xs found.0 found.1)) in
    (found.0, inr (found.1, sym same ∙ not_above), found.2)

left_mapped : {C H : Type 0} (f : Measure C H → Measure C H) (m : Measure C H) (xs : List (Measure C H)) →
    KeepsLasts f → EachLeft m xs → EachLeft (f m) (map f xs)
left_mapped f m [] e h = tt
left_mapped f m (x ∷ xs) e h =
    let less : x.last < m.last = h.0 in
    let one = e x in
    let two = e m in
    (omega arith, left_mapped f m xs e h.1)

falls_mapped : {C H : Type 0} (f : Measure C H → Measure C H) (xs : List (Measure C H)) → KeepsLasts f → Falls xs →
    Falls (map f xs)
falls_mapped f [] e h = tt
falls_mapped f (x ∷ xs) e h = (left_mapped f x xs e h.0, falls_mapped f xs e h.1)

-- measures can be changed so before or after they are pruned
pub pareto_mapped : {C H : Type 0} (costs : Costs C) (laws : Lawful costs) (f : Measure C H → Measure C H)
    (xs : List (Measure C H)) → KeepsLasts f → KeepsOrder costs f xs →
    EachIsValue costs xs → EachIsValue costs (map f xs) → map f (pareto costs xs) ≡ pareto costs (map f xs)
pareto_mapped {C = C} {H = H} costs laws f xs e g u v =
    same_members (map f (pareto costs xs)) (pareto costs (map f xs))
    (falls_mapped f (pareto costs xs) e (pareto-falls costs laws xs u)) (pareto-falls costs laws (map f xs) v)
    (λ z h.
    let found = map_member f z (pareto costs xs) h in
    subst (λ (m : Measure C H). IsMember m (pareto costs (map f xs))) (sym found.2)
    (pareto-member costs (map f xs) (f found.0)
    (kept_mapped costs f found.0 xs e g (member-pareto costs xs found.0 found.1))))
    (λ z h.
    let found = kept_unmapped costs f z xs e g (member-pareto costs (map f xs) z h) in
    subst (λ (m : Measure C H). IsMember m (map f (pareto costs xs))) (sym found.2)
    (member_map f found.0 (pareto costs xs) (pareto-member costs xs found.0 found.1)))
