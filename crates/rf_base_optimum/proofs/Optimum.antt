-- What is chosen of a core has a layout, and is best.
use Rattle.std.proofs.Common.{◌≡◌, ℕ, ◌+◌, false, List, [], ◌∷◌, ◌++◌, refl, sym, ◌∙◌, ap, subst, ◌⊎◌, inl, inr, Option, Some}
use Rattle.rf_base_document.specs.declared.directions.Dir.{Dir}
use Rattle.rf_base_document.specs.declared.directions.Dir.TheVariants.{Left, Right}
use Rattle.rf_base_document.specs.Document.{Doc, Text, Newline, Hard, Concat, Nest, Align, Reset, Flatten, Choice, Only, Charge, IsDocument}
use Rattle.rf_base_document.specs.Render.{Word, Break, Fee, Laid, laid, joined, followed_by, render}
use Rattle.rf_base_document.specs.Picks.{Picks, LaidOutBy, HasLayout}
use Rattle.rf_base_document.specs.Simple.{IsCore}
use Rattle.rf_base_document.proofs.Running.{picks_document}
use Rattle.rf_base_cost.specs.declared.measures.Measure.{Measure}
use Rattle.rf_base_cost.specs.Cost.{Costs, AtMost, IsColumn, Lawful}
use Rattle.rf_base_cost.specs.Pareto.{IsMember, IsFrontier, EachIsValue}
use Rattle.rf_base_cost.proofs.Dominance.{true_not_false}
use Rattle.rf_base_cost.proofs.Members.{value_member}
use Rattle.rf_base_cost.proofs.Pareto.{follows_member}
use Rattle.rf_base_optimum.specs.Plain.{plain}
use Rattle.rf_base_optimum.specs.Chosen.{Chosen, first_of, chosen_both, chosen_side, choose}
use Rattle.rf_base_optimum.specs.Best.{IsLeast, LeastOr, Best}
use Rattle.rf_base_optimum.proofs.Frontier.{plain_values, plain_frontier}
use Rattle.rf_base_optimum.proofs.Pruning.{layout_value, OfResolution, measure_of_resolution, dominated_by_frontier}
use Rattle.rf_base_optimum.proofs.Choosing.{choose_first}

-- what is chosen picks a resolution with a layout, which ends at the column that is told
abbrev pub ChosenHasLayout : Doc → ℕ → ℕ → Chosen → Type 0
ChosenHasLayout d c i choice = (whole : Laid) × LaidOutBy d choice.choices c i false whole × (whole.last ≡ choice.last)

first_laid : {C : Type 0} (costs : Costs C) (w : ℕ) (d : Doc) (c i : ℕ) (xs : List (Measure C (List Dir)))
    (by_parts : Chosen) →
    ((m : Measure C (List Dir)) → IsMember m xs → OfResolution costs w d c i m) → ChosenHasLayout d c i by_parts →
    ChosenHasLayout d c i (first_of xs by_parts)
unfolding IsMember
first_laid costs w d c i [] by_parts f h = h
first_laid costs w d c i (m ∷ xs) by_parts f h = let is = f m (inl refl) in (is.0, is.1.0, is.2)

both_laid : (a b : Doc) (c i : ℕ) (first : Chosen) (second : ℕ → Chosen) → ChosenHasLayout a c i first →
    ChosenHasLayout b first.last i (second first.last) →
    ChosenHasLayout (Concat a b) c i (chosen_both first second)
unfolding Picks render
both_laid a b c i first second g h =
    let left = g.1 in
    let right = h.1 in
    let follows : render right.0 g.0.last i false ≡ Some h.0 = ap (λ (n : ℕ). render right.0 n i false) g.2 ∙ right.2 in (
      laid (g.0.pieces ++ h.0.pieces) h.0.last,
      (
        Concat left.0 right.0,
        (first.choices, (second first.last).choices, left.0, right.0, refl, refl, left.1, right.1),
        ap (λ (o : Option Laid). followed_by o (λ last. render right.0 last i false)) left.2
            ∙ ap (λ (o : Option Laid). joined g.0 o) follows,
      ),
      h.2,
    )

charge_laid : (k : ℕ) (a : Doc) (c i : ℕ) (choice : Chosen) → ChosenHasLayout a c i choice →
    ChosenHasLayout (Charge k a) c i choice
unfolding Picks render
charge_laid k a c i choice h =
    let under = h.1 in (
      laid (Fee k ∷ h.0.pieces) h.0.last,
      (Charge k under.0, (under.0, refl, under.1), ap (λ (o : Option Laid). joined (laid (Fee k ∷ []) c) o) under.2),
      h.2,
    )

left_laid : (a b : Doc) (c i : ℕ) (choice : Chosen) → ChosenHasLayout a c i choice →
    ChosenHasLayout (Choice a b) c i (chosen_side Left choice)
unfolding Picks
left_laid a b c i choice h = let under = h.1 in (h.0, (under.0, (choice.choices, inl (refl, under.1)), under.2), h.2)

-- what is chosen of a core has a layout
pub chosen_laid : {C : Type 0} (costs : Costs C) (laws : Lawful costs) (w : ℕ) (d : Doc) (c i : ℕ) → IsColumn w →
    IsDocument d → IsCore d →
    ChosenHasLayout d c i (choose costs w d c i)
unfolding choose Picks render IsDocument IsCore
chosen_laid costs laws w (Text s len) c i p d core = (
  laid (Word c s len ∷ []) (c + len),
  (Text s len, (refl, refl), refl),
  refl,
)
chosen_laid costs laws w Newline c i p d core = (laid (Break i ∷ []) i, (Newline, (refl, refl), refl), refl)
chosen_laid costs laws w (Concat a b) c i p d core =
    first_laid costs w (Concat a b) c i (plain costs w (Concat a b) c i)
    (chosen_both (choose costs w a c i) (λ last. choose costs w b last i))
    (λ m h. measure_of_resolution costs laws w (Concat a b) c i m p d h)
    (both_laid a b c i (choose costs w a c i) (λ last. choose costs w b last i)
    (chosen_laid costs laws w a c i p d.0 core.0)
    (chosen_laid costs laws w b (choose costs w a c i).last i p d.1 core.1))
chosen_laid costs laws w (Nest n a) c i p d core =
    let h = chosen_laid costs laws w a c (i + n) p d.1 core in
    (h.0, (Nest n h.1.0, (h.1.0, refl, h.1.1), h.1.2), h.2)
chosen_laid costs laws w (Align a) c i p d core =
    let h = chosen_laid costs laws w a c c p d core in
    (h.0, (Align h.1.0, (h.1.0, refl, h.1.1), h.1.2), h.2)
chosen_laid costs laws w (Reset a) c i p d core =
    let h = chosen_laid costs laws w a c 0 p d core in
    (h.0, (Reset h.1.0, (h.1.0, refl, h.1.1), h.1.2), h.2)
chosen_laid costs laws w (Choice a b) c i p d core =
    first_laid costs w (Choice a b) c i (plain costs w (Choice a b) c i) (chosen_side Left (choose costs w a c i))
    (λ m h. measure_of_resolution costs laws w (Choice a b) c i m p d h)
    (left_laid a b c i (choose costs w a c i) (chosen_laid costs laws w a c i p d.0 core.0))
chosen_laid costs laws w (Only dir a) c i p d core =
    let h = chosen_laid costs laws w a c i p d core in
    (h.0, (h.1.0, ((choose costs w a c i).choices, refl, h.1.1), h.1.2), h.2)
chosen_laid costs laws w (Charge k a) c i p d core =
    first_laid costs w (Charge k a) c i (plain costs w (Charge k a) c i) (choose costs w a c i)
    (λ m h. measure_of_resolution costs laws w (Charge k a) c i m p d h)
    (charge_laid k a c i (choose costs w a c i) (chosen_laid costs laws w a c i p d.1 core))
chosen_laid costs laws w _ c i p d core = absurd core

-- the first measure of a frontier costs least
first_least : {C : Type 0} (costs : Costs C) (laws : Lawful costs) (m k : Measure C (List Dir))
    (rest : List (Measure C (List Dir))) →
    EachIsValue costs (m ∷ rest) → IsFrontier costs (m ∷ rest) → IsMember k (m ∷ rest) → AtMost costs m.cost k.cost
unfolding EachIsValue IsFrontier IsMember
first_least {C = C} costs laws m k rest v f (inl e) =
    subst (λ (x : Measure C (List Dir)). AtMost costs m.cost x.cost) (sym e)
    (elim (laws.total m.cost m.cost v.0 v.0) [ inl h ↦ h | inr h ↦ h ])
first_least costs laws m k rest v f (inr h) =
    elim (laws.total m.cost k.cost v.0 (value_member costs k rest v.1 h)) [
      | inl less ↦ less
      | inr more ↦ true_not_false (costs.le k.cost m.cost) more (follows_member costs m k rest f.0 h)
    ]

-- the choices of a frontier's first measure pick a resolution of the least cost
first_is_least : {C : Type 0} (costs : Costs C) (laws : Lawful costs) (w : ℕ) (d : Doc) (c i : ℕ)
    (m : Measure C (List Dir)) (rest : List (Measure C (List Dir))) →
    IsColumn w → IsDocument d → IsCore d → plain costs w d c i ≡ m ∷ rest → IsLeast costs w d c i false m.how
unfolding IsMember
first_is_least {C = C} costs laws w d c i m rest p q core e =
    let values =
    subst (λ (xs : List (Measure C (List Dir))). EachIsValue costs xs) e (plain_values costs laws w d c i p q) in
    let frontier =
    subst (λ (xs : List (Measure C (List Dir))). IsFrontier costs xs) e (plain_frontier costs laws w d c i p q) in
    let member = subst (λ (xs : List (Measure C (List Dir))). IsMember m xs) (sym e) (inl refl) in
    let is = measure_of_resolution costs laws w d c i m p q member in (
      is.0,
      is.1,
      λ others other within a b f g.
          let k = dominated_by_frontier costs laws w d c i others other p q core within in
          let listed = subst (λ (xs : List (Measure C (List Dir))). IsMember k.0 xs) e k.1 in
          let same : m.cost ≡ a = some_same m.cost a (sym is.3 ∙ f) in
          let first = first_least costs laws m k.0 rest values frontier listed in
          let value =
          layout_value costs laws w within.0.0 c i false other b p
          (picks_document d within.0.0 others q within.0.1) within.0.2 within.1.1 g in
          subst (λ (x : C). AtMost costs x b) same
          (laws.transitive m.cost k.0.cost b (value_member costs m (m ∷ rest) values (inl refl))
          (value_member costs k.0 (m ∷ rest) values listed) value first (k.3 b g)),
    )
  where
    some_same : {C : Type 0} (a b : C) → Some a ≡ Some b → a ≡ b
    some_same a b e = cc

-- what is chosen is least where the frontier has a measure, and else what it is by parts
least_or : {C : Type 0} (costs : Costs C) (laws : Lawful costs) (w : ℕ) (d : Doc) (c i : ℕ) (by_parts : Type 0)
    (xs : List (Measure C (List Dir))) →
    IsColumn w → IsDocument d → IsCore d → plain costs w d c i ≡ xs → (plain costs w d c i ≡ [] → by_parts) →
    LeastOr costs w d c i false (choose costs w d c i).choices by_parts
unfolding IsMember
least_or {C = C} costs laws w d c i by_parts [] p q core e f =
    let laid_out = chosen_laid costs laws w d c i p q core in (
      (laid_out.0, laid_out.1),
      inr (
        λ has.
            let m = dominated_by_frontier costs laws w d c i has.0 has.1 p q core has.2 in
            subst (λ (xs : List (Measure C (List Dir))). IsMember m.0 xs) e m.1,
        f e,
      ),
    )
least_or {C = C} costs laws w d c i by_parts (m ∷ rest) p q core e f =
    let laid_out = chosen_laid costs laws w d c i p q core in
    let first = choose_first costs w d c i m rest e in (
      (laid_out.0, laid_out.1),
      inl (subst (λ (x : Chosen). IsLeast costs w d c i false x.choices) (sym first)
          (first_is_least costs laws w d c i m rest p q core e)),
    )

-- what is chosen of a concatenation, a choice or a charge where nothing is within
by_parts_choices : {C : Type 0} (xs : List (Measure C (List Dir))) (by_parts : Chosen) → xs ≡ [] →
    (first_of xs by_parts).choices ≡ by_parts.choices
by_parts_choices {C = C} xs by_parts e = ap (λ (ys : List (Measure C (List Dir))). (first_of ys by_parts).choices) e

-- what is chosen of a core is best
pub chosen_best : {C : Type 0} (costs : Costs C) (laws : Lawful costs) (w : ℕ) (d : Doc) (c i : ℕ) → IsColumn w →
    IsDocument d → IsCore d →
    Best costs w d c i false (choose costs w d c i).choices
unfolding Best choose IsDocument IsCore
chosen_best costs laws w (Text s len) c i p d core =
    least_or costs laws w (Text s len) c i ((choose costs w (Text s len) c i).choices ≡ [])
    (plain costs w (Text s len) c i) p d core refl (λ none. refl)
chosen_best costs laws w Newline c i p d core =
    least_or costs laws w Newline c i ((choose costs w Newline c i).choices ≡ [])
    (plain costs w Newline c i) p d core refl (λ none. refl)
chosen_best costs laws w (Concat a b) c i p d core =
    least_or costs laws w (Concat a b) c i
    ((x : List Dir) × (y : List Dir) × (first : Laid) × ((choose costs w (Concat a b) c i).choices ≡ x ++ y)
    × Best costs w a c i false x
    × LaidOutBy a x c i false first × Best costs w b first.last i false y)
    (plain costs w (Concat a b) c i) p d core refl
    (λ none.
    let first = chosen_laid costs laws w a c i p d.0 core.0 in
    let last : ℕ = (choose costs w a c i).last in (
      (choose costs w a c i).choices,
      (choose costs w b last i).choices,
      first.0,
      by_parts_choices (plain costs w (Concat a b) c i)
          (chosen_both (choose costs w a c i) (λ n. choose costs w b n i)) none,
      chosen_best costs laws w a c i p d.0 core.0,
      first.1,
      subst (λ (n : ℕ). Best costs w b n i false (choose costs w b last i).choices) (sym first.2)
          (chosen_best costs laws w b last i p d.1 core.1),
    ))
chosen_best costs laws w (Nest n a) c i p d core =
    least_or costs laws w (Nest n a) c i (Best costs w a c (i + n) false (choose costs w a c (i + n)).choices)
    (plain costs w (Nest n a) c i) p d core refl
    (λ none. chosen_best costs laws w a c (i + n) p d.1 core)
chosen_best costs laws w (Align a) c i p d core =
    least_or costs laws w (Align a) c i (Best costs w a c c false (choose costs w a c c).choices)
    (plain costs w (Align a) c i) p d core refl
    (λ none. chosen_best costs laws w a c c p d core)
chosen_best costs laws w (Reset a) c i p d core =
    least_or costs laws w (Reset a) c i (Best costs w a c 0 false (choose costs w a c 0).choices)
    (plain costs w (Reset a) c i) p d core refl
    (λ none. chosen_best costs laws w a c 0 p d core)
chosen_best costs laws w (Choice a b) c i p d core =
    least_or costs laws w (Choice a b) c i
    ((rest : List Dir)
    × ((HasLayout a false × ((choose costs w (Choice a b) c i).choices ≡ Left ∷ rest) × Best costs w a c i false rest)
    ⊎ ((HasLayout a false → ⊥) × ((choose costs w (Choice a b) c i).choices ≡ Right ∷ rest)
    × Best costs w b c i false rest)))
    (plain costs w (Choice a b) c i) p d core refl
    (λ none.
    let first = chosen_laid costs laws w a 0 0 p d.0 core.0 in (
      (choose costs w a c i).choices,
      inl (
        ((choose costs w a 0 0).choices, first.0, first.1),
        by_parts_choices (plain costs w (Choice a b) c i) (chosen_side Left (choose costs w a c i)) none,
        chosen_best costs laws w a c i p d.0 core.0,
      ),
    ))
chosen_best costs laws w (Only dir a) c i p d core =
    least_or costs laws w (Only dir a) c i
    ((rest : List Dir) × ((choose costs w (Only dir a) c i).choices ≡ dir ∷ rest) × Best costs w a c i false rest)
    (plain costs w (Only dir a) c i) p d core refl
    (λ none. ((choose costs w a c i).choices, refl, chosen_best costs laws w a c i p d core))
chosen_best costs laws w (Charge k a) c i p d core =
    least_or costs laws w (Charge k a) c i (Best costs w a c i false (choose costs w (Charge k a) c i).choices)
    (plain costs w (Charge k a) c i) p d core refl
    (λ none.
    subst (λ (cs : List Dir). Best costs w a c i false cs)
    (sym (by_parts_choices (plain costs w (Charge k a) c i) (choose costs w a c i) none))
    (chosen_best costs laws w a c i p d.1 core))
chosen_best costs laws w _ c i p d core = absurd core
