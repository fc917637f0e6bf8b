-- One step of raising a frontier.
use Rattle.std.proofs.Common.{◌≡◌, ◌<◌, Bool, true, false, cond, List, [], ◌∷◌, ◌++◌, length, drop, get_or, refl, sym, ◌∙◌, ap, subst, inl, inr, append_assoc, arith}
use Rattle.std.proofs.lemmas.Bool.{cases_Bool}
use Rattle.rf_base_cost.specs.declared.measures.Measure.{Measure}
use Rattle.rf_base_cost.specs.Cost.{Costs, IsValue, AtMost, Lawful}
use Rattle.rf_base_cost.specs.Pareto.{undominated, by_last, pareto, IsMember, EachFollows, IsFrontier, EachIsValue, raised, all_raised}
use Rattle.rf_base_cost.proofs.Dominance.{true_not_false, not_dominates-dear, outdoes-not}
use Rattle.rf_base_cost.proofs.Members.{EachLeft, value_member}
use Rattle.rf_base_cost.proofs.Kept.{none_outdoes_from}
use Rattle.rf_base_cost.proofs.Pareto.{drop_outdone, take_rightmost, frontier_is_pareto}
use Rattle.rf_frontier.specs.Raised.{EachCostsNoLess, IsRaised, kept_before}
use Rattle.rf_frontier.proofs.Steps.{other_way, shorter_outdoes}

costs_no_less : {C H : Type 0} (costs : Costs C) (laws : Lawful costs) (by : C) (m : Measure C H) (xs : List (Measure C H)) → IsValue costs by → IsValue costs m.cost → EachIsValue costs xs →
    EachFollows costs m xs → EachCostsNoLess costs (raised costs by m) (all_raised costs by xs)
unfolding EachFollows EachCostsNoLess EachIsValue
costs_no_less costs laws by m [] u v w h = tt
costs_no_less costs laws by m (x ∷ xs) u v w h =
    let same : AtMost costs by by = elim (laws.total by by u u) [ inl k ↦ k | inr k ↦ k ] in
    (h.0, laws.monotone by by m.cost x.cost u u v w.0 same (other_way costs laws x.cost m.cost w.0 v h.1), costs_no_less costs laws by m xs u v w.1 h.2)

-- a frontier, raised
pub raised_frontier : {C H : Type 0} (costs : Costs C) (laws : Lawful costs) (by : C) (xs : List (Measure C H)) → IsValue costs by → EachIsValue costs xs → IsFrontier costs xs →
    IsRaised costs (all_raised costs by xs)
unfolding IsFrontier IsRaised EachIsValue
raised_frontier costs laws by [] u v f = tt
raised_frontier costs laws by (x ∷ xs) u v f = (costs_no_less costs laws by x xs u v.0 v.1 f.0, raised_frontier costs laws by xs u v.1 f.1)

pub raised_values : {C H : Type 0} (costs : Costs C) (laws : Lawful costs) (by : C) (xs : List (Measure C H)) → IsValue costs by → EachIsValue costs xs → EachIsValue costs (all_raised costs by xs)
unfolding EachIsValue
raised_values costs laws by [] u v = tt
raised_values costs laws by (x ∷ xs) u v = (laws.add_is_value by x.cost u v.0, raised_values costs laws by xs u v.1)

no_less_member : {C H : Type 0} (costs : Costs C) (m z : Measure C H) (xs : List (Measure C H)) → EachCostsNoLess costs m xs → IsMember z xs → AtMost costs m.cost z.cost
unfolding EachCostsNoLess IsMember
no_less_member costs m z [] p h = absurd h
no_less_member {C = C} {H = H} costs m z (x ∷ xs) p (inl e) = subst (λ (v : Measure C H). AtMost costs m.cost v.cost) (sym e) p.1
no_less_member costs m z (x ∷ xs) p (inr h) = no_less_member costs m z xs p.2 h

no_less-left : {C H : Type 0} (costs : Costs C) (m : Measure C H) (xs : List (Measure C H)) → EachCostsNoLess costs m xs → EachLeft m xs
unfolding EachCostsNoLess
no_less-left costs m [] h = tt
no_less-left costs m (x ∷ xs) h = (h.0, no_less-left costs m xs h.2)

-- the held measure costs less than the next one, so it stays
held_stays : {C H : Type 0} (costs : Costs C) (laws : Lawful costs) (h n : Measure C H) (xs : List (Measure C H)) → IsRaised costs (h ∷ n ∷ xs) → EachIsValue costs (h ∷ n ∷ xs) →
    costs.le n.cost h.cost ≡ false → pareto costs (h ∷ n ∷ xs) ≡ h ∷ pareto costs (n ∷ xs)
unfolding IsRaised EachIsValue IsMember
held_stays {C = C} {H = H} costs laws h n xs r v dear =
    take_rightmost costs laws [] (n ∷ xs) h tt v tt (no_less-left costs h (n ∷ xs) r.0) tt
    (none_outdoes_from costs (n ∷ xs) h (λ z k. outdoes-not costs z h (not_dominates-dear costs z h
    (elim k [
      | inl e ↦ subst (λ (m : Measure C H). costs.le m.cost h.cost ≡ false) (sym e) dear
      | inr k' ↦
          elim (cases_Bool (costs.le z.cost h.cost)) [
            | inr no_more ↦ no_more
            | inl more ↦
                let w = value_member costs z xs v.1.1 k' in
                true_not_false (costs.le n.cost h.cost) (laws.transitive n.cost z.cost h.cost v.1.0 w v.0 (no_less_member costs n z xs r.1.0 k') more) dear
          ]
    ]))))

-- the next measure ends further left and costs no more, so the held one can go
held_goes : {C H : Type 0} (costs : Costs C) (laws : Lawful costs) (h n : Measure C H) (xs : List (Measure C H)) → IsRaised costs (h ∷ n ∷ xs) → EachIsValue costs (h ∷ n ∷ xs) →
    costs.le n.cost h.cost ≡ true → pareto costs (h ∷ n ∷ xs) ≡ pareto costs (n ∷ xs)
unfolding IsRaised EachCostsNoLess IsMember
held_goes costs laws h n xs r v less = drop_outdone costs laws h n (n ∷ xs) v (inl refl) (shorter_outdoes costs h n r.0.0 less)

kept_cases : {C H : Type 0} (costs : Costs C) (laws : Lawful costs) (kept : List (Measure C H)) (h n : Measure C H) (xs whole : List (Measure C H)) (b : Bool) → costs.le n.cost h.cost ≡ b →
    IsRaised costs (h ∷ n ∷ xs) → EachIsValue costs (h ∷ n ∷ xs) → kept ++ pareto costs (h ∷ n ∷ xs) ≡ whole →
    cond b kept (kept ++ h ∷ []) ++ pareto costs (n ∷ xs) ≡ whole
kept_cases {C = C} {H = H} costs laws kept h n xs whole true e r v so_far =
    ap (λ (ms : List (Measure C H)). kept ++ ms) (sym (held_goes costs laws h n xs r v e)) ∙ so_far
kept_cases {C = C} {H = H} costs laws kept h n xs whole false e r v so_far =
    append_assoc kept (h ∷ []) (pareto costs (n ∷ xs)) ∙ (ap (λ (ms : List (Measure C H)). kept ++ ms) (sym (held_stays costs laws h n xs r v e)) ∙ so_far)

tail_raised : {C H : Type 0} (costs : Costs C) (m : Measure C H) (xs : List (Measure C H)) → IsRaised costs (m ∷ xs) → IsRaised costs xs
unfolding IsRaised
tail_raised costs m xs r = r.1

-- what a turn of the loop leaves
abbrev pub Raising : {C H : Type 0} → Costs C → C → List (Measure C H) → Measure C H → List (Measure C H) → List (Measure C H) → Type 0
Raising costs by kept held left whole =
    (kept ++ pareto costs (held ∷ all_raised costs by left) ≡ whole) × IsRaised costs (held ∷ all_raised costs by left) × IsValue costs held.cost × EachIsValue costs left

turn_at : {C H : Type 0} (costs : Costs C) (laws : Lawful costs) (by : C) (kept : List (Measure C H)) (h x : Measure C H) (xs whole : List (Measure C H)) →
    IsValue costs by → Raising costs by kept h (x ∷ xs) whole → Raising costs by (kept_before costs kept h (raised costs by x)) (raised costs by x) xs whole
unfolding EachIsValue
turn_at costs laws by kept h x xs whole u p =
    let n = raised costs by x in (
      kept_cases costs laws kept h (raised costs by x) (all_raised costs by xs) whole (costs.le (costs.add by x.cost) h.cost) refl p.1
          (p.2, (laws.add_is_value by x.cost u p.3.0, raised_values costs laws by xs u p.3.1)) p.0,
      tail_raised costs h (raised costs by x ∷ all_raised costs by xs) p.1,
      laws.add_is_value by x.cost u p.3.0,
      p.3.1,
    )

-- one turn of the loop: the next measure is the first of what is left, raised
pub raise_turn : {C H : Type 0} (costs : Costs C) (laws : Lawful costs) (by : C) (kept new : List (Measure C H)) (h n m : Measure C H) (left after whole : List (Measure C H)) →
    IsValue costs by → 0 < length left → m ≡ get_or left 0 m → n ≡ raised costs by m → after ≡ drop 1 left → new ≡ kept_before costs kept h n →
    Raising costs by kept h left whole → Raising costs by new n after whole
raise_turn costs laws by kept new h n m [] after whole u p e f a k r = absurd (omega arith)
raise_turn {C = C} {H = H} costs laws by kept new h n m (x ∷ xs) after whole u p e f a k r =
    let at : n ≡ raised costs by x = f ∙ ap (raised costs by) e in
    let is : kept_before costs kept h n ≡ kept_before costs kept h (raised costs by x) = ap (kept_before costs kept h) at in
    let found = turn_at costs laws by kept h x xs whole u r in
    subst (λ (ms : List (Measure C H)). Raising costs by ms n after whole) (sym (k ∙ is))
    (subst (λ (v : Measure C H). Raising costs by (kept_before costs kept h (raised costs by x)) v after whole) (sym at)
    (subst (λ (ms : List (Measure C H)). Raising costs by (kept_before costs kept h (raised costs by x)) (raised costs by x) ms whole) (sym a) found))

-- the loop begins with nothing kept, and ends with nothing left
pub begins_with : {C H : Type 0} (costs : Costs C) (by : C) (kept : List (Measure C H)) (h : Measure C H) (left : List (Measure C H)) → kept ≡ [] →
    IsRaised costs (h ∷ all_raised costs by left) → IsValue costs h.cost → EachIsValue costs left → Raising costs by kept h left (pareto costs (h ∷ all_raised costs by left))
begins_with {C = C} {H = H} costs by kept h left e r u v =
    (ap (λ (ms : List (Measure C H)). ms ++ pareto costs (h ∷ all_raised costs by left)) e, r, u, v)

pub raise_ends : {C H : Type 0} (costs : Costs C) (laws : Lawful costs) (by : C) (kept new : List (Measure C H)) (h : Measure C H) (left whole : List (Measure C H)) →
    length left ≡ 0 → new ≡ kept ++ h ∷ [] → Raising costs by kept h left whole → new ≡ whole
unfolding EachIsValue IsFrontier EachFollows
raise_ends costs laws by kept new h (x ∷ left) whole p e r = absurd (omega arith)
raise_ends {C = C} {H = H} costs laws by kept new h [] whole p e r =
    e ∙ (ap (λ (ms : List (Measure C H)). kept ++ ms) (sym (frontier_is_pareto costs laws (h ∷ []) (r.2, tt) (tt, tt))) ∙ r.0)

-- what is raised first, and then the rest of the list
pub raise_first : {C H : Type 0} (costs : Costs C) (laws : Lawful costs) (by : C) (m first : Measure C H) (list rest : List (Measure C H)) →
    IsValue costs by → IsFrontier costs list → EachIsValue costs list → 0 < length list → m ≡ get_or list 0 m → first ≡ raised costs by m → rest ≡ drop 1 list →
    (first ∷ all_raised costs by rest ≡ all_raised costs by list) × IsRaised costs (first ∷ all_raised costs by rest) × IsValue costs first.cost × EachIsValue costs rest
unfolding EachIsValue
raise_first costs laws by m first [] rest u f v p e k d = absurd (omega arith)
raise_first {C = C} {H = H} costs laws by m first (x ∷ xs) rest u f v p e k d =
    let is : first ≡ raised costs by x = k ∙ ap (raised costs by) e in
    let all : first ∷ all_raised costs by rest ≡ raised costs by x ∷ all_raised costs by xs =
    ap (λ (n : Measure C H). n ∷ all_raised costs by rest) is ∙ ap (λ (ms : List (Measure C H)). raised costs by x ∷ all_raised costs by ms) d in (
      all,
      subst (λ (ms : List (Measure C H)). IsRaised costs ms) (sym all) (raised_frontier costs laws by (x ∷ xs) u v f),
      subst (λ (n : Measure C H). IsValue costs n.cost) (sym is) (laws.add_is_value by x.cost u v.0),
      subst (λ (ms : List (Measure C H)). EachIsValue costs ms) (sym d) v.1,
    )

pub raised_none : {C H : Type 0} (costs : Costs C) (by : C) (list : List (Measure C H)) → length list ≡ 0 → [] ≡ pareto costs (all_raised costs by list)
unfolding pareto undominated by_last
raised_none costs by [] p = refl
raised_none costs by (x ∷ xs) p = absurd (omega arith)

pub raised_value : {C H : Type 0} (costs : Costs C) (laws : Lawful costs) (by : C) (m n : Measure C H) → n ≡ raised costs by m → IsValue costs by → IsValue costs m.cost → IsValue costs n.cost
raised_value {C = C} {H = H} costs laws by m n e u v = subst (λ (x : Measure C H). IsValue costs x.cost) (sym e) (laws.add_is_value by m.cost u v)
