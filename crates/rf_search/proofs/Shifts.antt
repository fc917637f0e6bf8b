-- Measures put behind one, one after another.
use Rattle.std.proofs.Common.{◌≡◌, ℕ, Bool, true, false, cond, zero, suc, ◌+◌, ◌<◌, List, [], ◌∷◌, ◌++◌, length, take, Some, refl, sym, subst, ap, ap₂, ◌∙◌, arith}
use Rattle.std.specs.Prelude.{slice_get, nat_le}
use Rattle.rf_base_document.specs.declared.directions.Dir.{Dir}
use Rattle.rf_base_cost.specs.declared.measures.Measure.{Measure}
use Rattle.rf_base_cost.specs.Cost.{Costs, IsValue}
use Rattle.rf_base_cost.specs.Pareto.{EachIsValue, shifted, all_shifted}
use Rattle.rf_base_cut.specs.Cut.{cut}
use Rattle.rf_base_cut.specs.OneLine.{measured}
use Rattle.rf_frontier.specs.declared.hows.How.{How}
use Rattle.rf_frontier.specs.declared.hows.HowId.{HowId}
use Rattle.rf_frontier.specs.Ways.{choices_of, KeepsWays}
use Rattle.rf_frontier.specs.Frontiers.{BelongTo, chosen, all_chosen}
use Rattle.rf_frontier.proofs.Ways.{keeps_choices}
use Rattle.rf_frontier.proofs.Behind.{belong_keeps, chosen_keeps, chosen_append, belong_append, one_belongs}
use Rattle.rf_frontier.proofs.Cuts.{take_at}

-- the measures, whose ways are among the new ones, are these of the older ways behind the one
abbrev pub AreShifted : {C : Type 0} → Costs C → List How → List How → Measure C HowId → List (Measure C HowId) → List (Measure C HowId) → Type 0
AreShifted costs old new m list all =
    BelongTo new all × (all_chosen new all ≡ all_shifted costs (chosen old m) (all_chosen old list))

pub none_shifted : {C : Type 0} (costs : Costs C) (old : List How) (m : Measure C HowId) (all : List (Measure C HowId)) → all ≡ [] → AreShifted costs old old m [] all
unfolding BelongTo
none_shifted {C = C} costs old m all e = subst (λ (z : List (Measure C HowId)). AreShifted costs old old m [] z) (sym e) (tt, refl)

shifted_append : {C : Type 0} (costs : Costs C) (m : Measure C (List Dir)) (xs ys : List (Measure C (List Dir))) → all_shifted costs m (xs ++ ys) ≡ all_shifted costs m xs ++ all_shifted costs m ys
shifted_append costs m [] ys = refl
shifted_append {C = C} costs m (x ∷ xs) ys = ap (λ (z : List (Measure C (List Dir))). shifted costs m x ∷ z) (shifted_append costs m xs ys)

-- one more
pub one_shifted : {C : Type 0} (costs : Costs C) (old now new : List How) (m k x : Measure C HowId) (row all more : List (Measure C HowId)) (at next : ℕ) →
    AreShifted costs old now m (take at row) all → KeepsWays old now → KeepsWays now new → m.how.0 < length old → BelongTo old row → k.how.0 < length old → slice_get row at ≡ Some k → next ≡ at + 1 →
    x.last ≡ k.last → x.cost ≡ costs.add m.cost k.cost → x.how.0 < length new → choices_of new x.how.0 ≡ choices_of now m.how.0 ++ choices_of now k.how.0 → more ≡ all ++ x ∷ [] →
    AreShifted costs old new m (take next row) more
one_shifted {C = C} costs old now new m k x row all more at next so_far older newer way belong k_way there same last cost x_way how is =
    let step : suc at ≡ next = omega (arith, same) in
    let xs : List (Measure C HowId) = take at row in
    let m_choices : choices_of now m.how.0 ≡ choices_of old m.how.0 = keeps_choices old now m.how.0 older way in
    let k_choices : choices_of now k.how.0 ≡ choices_of old k.how.0 = keeps_choices old now k.how.0 older k_way in
    let choices : choices_of new x.how.0 ≡ choices_of old m.how.0 ++ choices_of old k.how.0 = how ∙ ap₂ (λ (a b : List Dir). a ++ b) m_choices k_choices in
    let of_x : chosen new x ≡ shifted costs (chosen old m) (chosen old k) =
    ap (λ (n : ℕ). measured n x.cost (choices_of new x.how.0)) last ∙ (ap (λ (c : C). measured k.last c (choices_of new x.how.0)) cost ∙ ap (λ (z : List Dir). measured k.last (costs.add m.cost k.cost) z) choices) in
    let left : all_chosen new all ≡ all_shifted costs (chosen old m) (all_chosen old xs) = chosen_keeps now new all newer so_far.0 ∙ so_far.1 in
    let whole : all_chosen new (all ++ x ∷ []) ≡ all_shifted costs (chosen old m) (all_chosen old (xs ++ k ∷ [])) =
    chosen_append new all (x ∷ [])
    ∙ (ap₂ (λ (a b : List (Measure C (List Dir))). a ++ b) left (ap (λ (z : Measure C (List Dir)). z ∷ []) of_x)
    ∙ (sym (shifted_append costs (chosen old m) (all_chosen old xs) (chosen old k ∷ []))
    ∙ ap (λ (z : List (Measure C (List Dir))). all_shifted costs (chosen old m) z) (sym (chosen_append old xs (k ∷ []))))) in
    subst (λ (z : List (Measure C HowId)). AreShifted costs old new m (take next row) z) (sym is)
    (subst (λ (i : ℕ). AreShifted costs old new m (take i row) (all ++ x ∷ [])) step
    (subst (λ (z : List (Measure C HowId)). AreShifted costs old new m z (all ++ x ∷ [])) (sym (take_at at row k there))
    (belong_append new all (x ∷ []) (belong_keeps now new all newer so_far.0) (one_belongs new (x ∷ []) x refl x_way), whole)))

pub belong_there : {C : Type 0} (ways : List How) (f : List (Measure C HowId)) (n : ℕ) (m : Measure C HowId) → BelongTo ways f → slice_get f n ≡ Some m → m.how.0 < length ways
unfolding BelongTo
belong_there ways [] n m h e = cc
belong_there {C = C} ways (x ∷ xs) zero m h e = let same : x ≡ m = cc in subst (λ (z : Measure C HowId). z.how.0 < length ways) same h.0
belong_there ways (x ∷ xs) (suc n) m h e = belong_there ways xs n m h.1 e

pub value_there : {C H : Type 0} (costs : Costs C) (f : List (Measure C H)) (n : ℕ) (m : Measure C H) → EachIsValue costs f → slice_get f n ≡ Some m → IsValue costs m.cost
unfolding EachIsValue
value_there costs [] n m h e = cc
value_there {C = C} {H = H} costs (x ∷ xs) zero m h e = let same : x ≡ m = cc in subst (λ (z : Measure C H). IsValue costs z.cost) same h.0
value_there costs (x ∷ xs) (suc n) m h e = value_there costs xs n m h.1 e

-- a measure alone is never cut off
either_way : {A : Type 0} (b : Bool) (xs : List A) → cond b xs xs ≡ xs
either_way true xs = refl
either_way false xs = refl

cut_alone : {C : Type 0} (x : ℕ) (m : Measure C (List Dir)) → cut x (m ∷ []) ≡ m ∷ []
unfolding cut
cut_alone {C = C} x m = ap (λ (z : List (Measure C (List Dir))). m ∷ z) (either_way (nat_le m.last x) [])

-- the only measure of a row
pub alone_shifted : {C : Type 0} (costs : Costs C) (old new : List How) (m k one : Measure C HowId) (row kept : List (Measure C HowId)) (x : ℕ) → row ≡ k ∷ [] → one.last ≡ k.last → one.cost ≡ costs.add m.cost k.cost →
    one.how.0 < length new → choices_of new one.how.0 ≡ choices_of old m.how.0 ++ choices_of old k.how.0 → kept ≡ one ∷ [] →
    BelongTo new kept × (all_chosen new kept ≡ all_shifted costs (chosen old m) (cut x (all_chosen old row)))
alone_shifted {C = C} costs old new m k one row kept x alone last cost way choices is =
    let behind : chosen new one ≡ shifted costs (chosen old m) (chosen old k) =
    ap (λ (n : ℕ). measured n one.cost (choices_of new one.how.0)) last ∙ (ap (λ (c : C). measured k.last c (choices_of new one.how.0)) cost ∙ ap (λ (z : List Dir). measured k.last (costs.add m.cost k.cost) z) choices) in (
      subst (λ (z : List (Measure C HowId)). BelongTo new z) (sym is) (one_belongs new (one ∷ []) one refl way),
      ap (λ (z : List (Measure C HowId)). all_chosen new z) is
          ∙ (ap (λ (z : Measure C (List Dir)). z ∷ []) behind
          ∙ (ap (λ (z : List (Measure C (List Dir))). all_shifted costs (chosen old m) z) (sym (cut_alone x (chosen old k)))
          ∙ ap (λ (z : List (Measure C HowId)). all_shifted costs (chosen old m) (cut x (all_chosen old z))) (sym alone))),
    )
