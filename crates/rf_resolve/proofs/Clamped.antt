-- A walk with columns and indentations that stop past the width finds what is chosen.
use Rattle.std.proofs.Common.{◌≡◌, ℕ, ◌+◌, ◌<◌, ◌≤◌, List, [], ◌∷◌, ◌++◌, refl, sym, ◌∙◌, ap, subst, inl, inr, arith}
use Rattle.std.proofs.lemmas.Bool.{cases_lt}
use Rattle.rf_base_document.specs.declared.directions.Dir.{Dir}
use Rattle.rf_base_document.specs.declared.directions.Dir.TheVariants.{Left}
use Rattle.rf_base_document.specs.Document.{Doc, Text, Newline, Hard, Concat, Nest, Align, Reset, Flatten, Choice, Only, Charge}
use Rattle.rf_base_document.specs.Simple.{IsCore}
use Rattle.rf_base_cost.specs.declared.measures.Measure.{Measure}
use Rattle.rf_base_cost.specs.Cost.{Costs}
use Rattle.rf_base_optimum.specs.Plain.{plain, EachEndsBy}
use Rattle.rf_base_optimum.specs.Chosen.{Chosen, chosen, first_of, chosen_both, chosen_side, choose}
use Rattle.rf_base_optimum.proofs.Frontier.{plain_past, plain_deep, plain_ends}
use Rattle.rf_base_optimum.proofs.Choosing.{choose_first}
use Rattle.rf_resolve.specs.Walk.{Walked, at_most_past, first_walked, walked_both, walked_side, walk}

-- the walk has the choices that are chosen, and ends at their column as far as it is told
abbrev pub Agrees : ℕ → Walked → Chosen → Type 0
Agrees w went taken = (went.choices ≡ taken.choices) × (went.last ≡ at_most_past w taken.last)

-- a place that is kept so already may have more added to it
at_most_past-added : (w n m : ℕ) → at_most_past w (at_most_past w n + m) ≡ at_most_past w (n + m)
at_most_past-added w n m = omega arith

-- a frontier past the width, or in it, is alike where the place is kept so
plain_clamped : {C : Type 0} (costs : Costs C) (w : ℕ) (d : Doc) (c i : ℕ) → plain costs w d (at_most_past w c) (at_most_past w i) ≡ plain costs w d c i
plain_clamped costs w d c i = elim (cases_lt w c) [
  | inl past ↦
      let at : w < at_most_past w c = omega (arith, past) in
      plain_past costs w d (at_most_past w c) (at_most_past w i) at ∙ sym (plain_past costs w d c i past)
  | inr within ↦
      let same : at_most_past w c ≡ c = omega (arith, within) in
      ap (λ (x : ℕ). plain costs w d x (at_most_past w i)) same ∙ plain_deep costs w d c i
]

-- where the frontier has a measure both take it; otherwise both go part by part
by_frontier : {C : Type 0} (w : ℕ) (found other : List (Measure C (List Dir))) (went : Walked) (taken : Chosen) → found ≡ other →
    ((m : Measure C (List Dir)) (rest : List (Measure C (List Dir))) → other ≡ m ∷ rest → m.last ≤ w) →
    Agrees w went taken → Agrees w (first_walked found went) (first_of other taken)
by_frontier w found [] went taken same ends agrees = subst (λ (l : List _). Agrees w (first_walked l went) taken) (sym same) agrees
by_frontier w found (m ∷ rest) went taken same ends agrees =
    subst (λ (l : List _). Agrees w (first_walked l went) (chosen m.how m.last)) (sym same)
    (refl, let near : m.last ≤ w = ends m rest refl in let is : m.last ≡ at_most_past w m.last = omega (arith, near) in is)

-- a first measure ends within the width
pub first_ends : {C : Type 0} (costs : Costs C) (w : ℕ) (d : Doc) (c i : ℕ) (m : Measure C (List Dir)) (rest : List (Measure C (List Dir))) →
    plain costs w d c i ≡ m ∷ rest → m.last ≤ w
unfolding EachEndsBy
first_ends costs w d c i m rest is = let each : EachEndsBy w (m ∷ rest) = subst (λ (l : List _). EachEndsBy w l) is (plain_ends costs w d c i) in each.0

-- what is chosen is the first measure, where there is one
chosen_or : {C : Type 0} (costs : Costs C) (w : ℕ) (d : Doc) (c i : ℕ) (found : List (Measure C (List Dir))) → plain costs w d c i ≡ found →
    first_of found (choose costs w d c i) ≡ choose costs w d c i
chosen_or costs w d c i [] is = refl
chosen_or costs w d c i (m ∷ rest) is = sym (choose_first costs w d c i m rest is)

-- a walk that agrees by parts agrees
agrees_by : {C : Type 0} (costs : Costs C) (w : ℕ) (d : Doc) (c i : ℕ) (went : Walked) → Agrees w went (choose costs w d c i) →
    Agrees w (first_walked (plain costs w d (at_most_past w c) (at_most_past w i)) went) (choose costs w d c i)
agrees_by costs w d c i went agrees =
    subst (λ (t : Chosen). Agrees w (first_walked (plain costs w d (at_most_past w c) (at_most_past w i)) went) t)
    (chosen_or costs w d c i (plain costs w d c i) refl)
    (by_frontier w _ (plain costs w d c i) went (choose costs w d c i) (plain_clamped costs w d c i) (first_ends costs w d c i) agrees)

-- both parts agree
both_agree : (w : ℕ) (first : Walked) (second : ℕ → Walked) (taken : Chosen) (behind : ℕ → Chosen) → Agrees w first taken →
    ((last : ℕ) → Agrees w (second (at_most_past w last)) (behind last)) → Agrees w (walked_both first second) (chosen_both taken behind)
both_agree w first second taken behind agrees each =
    let at : Agrees w (second first.last) (behind taken.last) = subst (λ (n : ℕ). Agrees w (second n) (behind taken.last)) (sym agrees.1) (each taken.last) in
    (ap (λ (x : List Dir). x ++ (second first.last).choices) agrees.0 ∙ ap (λ (x : List Dir). taken.choices ++ x) at.0, at.1)

side_agrees : (w : ℕ) (dir : Dir) (went : Walked) (taken : Chosen) → Agrees w went taken → Agrees w (walked_side dir went) (chosen_side dir taken)
side_agrees w dir went taken agrees = (ap (λ (x : List Dir). dir ∷ x) agrees.0, agrees.1)

pub walk_agrees : {C : Type 0} (costs : Costs C) (w : ℕ) (d : Doc) (c i : ℕ) → IsCore d →
    Agrees w (walk costs w d (at_most_past w c) (at_most_past w i)) (choose costs w d c i)
unfolding walk choose IsCore
walk_agrees costs w (Text s len) c i core = agrees_by costs w (Text s len) c i _ (refl, at_most_past-added w c len)
walk_agrees costs w Newline c i core = agrees_by costs w Newline c i _ (refl, refl)
walk_agrees costs w (Concat a b) c i core =
    by_frontier w _ (plain costs w (Concat a b) c i) _ _ (plain_clamped costs w (Concat a b) c i) (first_ends costs w (Concat a b) c i)
    (both_agree w (walk costs w a (at_most_past w c) (at_most_past w i)) (λ last. walk costs w b last (at_most_past w i)) _ (λ last. choose costs w b last i) (walk_agrees costs w a c i core.0) (λ last. walk_agrees costs w b last i core.1))
walk_agrees costs w (Nest n a) c i core = agrees_by costs w (Nest n a) c i _
    (subst (λ (x : ℕ). Agrees w (walk costs w a (at_most_past w c) x) (choose costs w a c (i + n))) (sym (at_most_past-added w i n)) (walk_agrees costs w a c (i + n) core))
walk_agrees costs w (Align a) c i core = agrees_by costs w (Align a) c i _ (walk_agrees costs w a c c core)
walk_agrees costs w (Reset a) c i core = agrees_by costs w (Reset a) c i _
    (let none : at_most_past w 0 ≡ 0 = omega arith in
    subst (λ (x : ℕ). Agrees w (walk costs w a (at_most_past w c) x) (choose costs w a c 0)) none (walk_agrees costs w a c 0 core))
walk_agrees costs w (Choice a b) c i core =
    by_frontier w _ (plain costs w (Choice a b) c i) _ _ (plain_clamped costs w (Choice a b) c i) (first_ends costs w (Choice a b) c i)
    (side_agrees w Left (walk costs w a (at_most_past w c) (at_most_past w i)) _ (walk_agrees costs w a c i core.0))
walk_agrees costs w (Only dir a) c i core = agrees_by costs w (Only dir a) c i _ (side_agrees w dir (walk costs w a (at_most_past w c) (at_most_past w i)) _ (walk_agrees costs w a c i core))
walk_agrees costs w (Charge k a) c i core =
    by_frontier w _ (plain costs w (Charge k a) c i) _ _ (plain_clamped costs w (Charge k a) c i) (first_ends costs w (Charge k a) c i)
    (walk_agrees costs w a c i core)
walk_agrees costs w _ c i core = absurd core
