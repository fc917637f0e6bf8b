-- Documents whose layouts don't depend on the indentation.
use Rattle.std.proofs.Common.{◌≡◌, ℕ, ◌+◌, Bool, true, false, List, ◌++◌, refl, sym, ◌∙◌, ap, ap₂, subst, Option, Some, None}
use Rattle.rf_base_document.specs.declared.directions.Dir.{Dir}
use Rattle.rf_base_document.specs.declared.directions.Dir.TheVariants.{Left, Right}
use Rattle.rf_base_document.specs.Document.{Doc, Text, Newline, Hard, Concat, Nest, Align, Reset, Flatten, Choice, Only, Charge}
use Rattle.rf_base_document.specs.Simple.{simple_newline, simple_hard, simple}
use Rattle.rf_base_cost.specs.declared.measures.Measure.{Measure}
use Rattle.rf_base_cost.specs.Cost.{Costs}
use Rattle.rf_base_cost.specs.Pareto.{pareto, all_shifted, all_marked, all_raised}
use Rattle.rf_base_optimum.specs.Plain.{all_joined, plain}
use Rattle.rf_base_optimum.proofs.Frontier.{joined_alike}
use Rattle.rf_base_cut.specs.Cut.{cut, after}
use Rattle.rf_base_cut.specs.Documents.{after_some, after_in, KnowsNoIndentation}
use Rattle.rf_base_document.proofs.Simple.{map_is, concat_is, choice_core}

-- nor do those of its core
abbrev Knows : Doc → Type 0
Knows s = KnowsNoIndentation s false

newline_knows : (flat : Bool) → flat ≡ true → Knows (simple_newline flat)
unfolding KnowsNoIndentation
newline_knows true e = tt
newline_knows false e = cc

hard_knows : (flat : Bool) (s : Doc) → flat ≡ true → simple_hard flat ≡ Some s → Knows s
hard_knows true s e f = cc
hard_knows false s e f = cc

core_knows : (d : Doc) (flat : Bool) (s : Doc) → KnowsNoIndentation d flat → simple d flat ≡ Some s → Knows s
unfolding simple KnowsNoIndentation
core_knows (Text t len) flat s h e = let same : Text t len ≡ s = cc in subst (λ (x : Doc). Knows x) same tt
core_knows Newline flat s h e =
    let same : simple_newline flat ≡ s = cc in subst (λ (x : Doc). Knows x) same (newline_knows flat h)
core_knows Hard flat s h e = hard_knows flat s h e
core_knows (Concat a b) flat s h e =
    let parts = concat_is (simple a flat) (simple b flat) s e in
    subst (λ (x : Doc). Knows x) (sym parts.4) (
      core_knows a flat parts.0 h.0 parts.2,
      core_knows b flat parts.1 h.1 parts.3,
    )
core_knows (Nest n a) flat s h e =
    let part = map_is (Nest n) (simple a flat) s e in
    subst (λ (x : Doc). Knows x) (sym part.2) (core_knows a flat part.0 h part.1)
core_knows (Align a) flat s h e =
    let part = map_is Align (simple a flat) s e in subst (λ (x : Doc). Knows x) (sym part.2) tt
core_knows (Reset a) flat s h e =
    let part = map_is Reset (simple a flat) s e in subst (λ (x : Doc). Knows x) (sym part.2) tt
core_knows (Flatten a) flat s h e = core_knows a true s h e
core_knows (Choice a b) flat s h e =
    choice_core Knows (λ dir x k. k) (λ x y k l. (k, l)) (simple a flat) (simple b flat) s
    (λ x k. core_knows a flat x h.0 k) (λ x k. core_knows b flat x h.1 k) e
core_knows (Only dir a) flat s h e =
    let part = map_is (Only dir) (simple a flat) s e in
    subst (λ (x : Doc). Knows x) (sym part.2) (core_knows a flat part.0 h part.1)
core_knows (Charge k a) flat s h e =
    let part = map_is (Charge k) (simple a flat) s e in
    subst (λ (x : Doc). Knows x) (sym part.2) (core_knows a flat part.0 h part.1)

-- so its frontier is one at all indentations
unindented : {C : Type 0} (costs : Costs C) (w : ℕ) (d : Doc) (c i j : ℕ) → Knows d →
    plain costs w d c i ≡ plain costs w d c j
unfolding plain KnowsNoIndentation
unindented costs w Newline c i j h = cc
unindented {C = C} costs w (Concat a b) c i j h =
    ap (λ (z : List (Measure C (List Dir))). pareto costs (all_joined costs z (λ last. plain costs w b last i)))
    (unindented costs w a c i j h.0)
    ∙ ap (pareto costs) (joined_alike costs (plain costs w a c j) (λ last. plain costs w b last i)
    (λ last. plain costs w b last j) (λ last. unindented costs w b last i j h.1))
unindented costs w (Nest n a) c i j h = unindented costs w a c (i + n) (j + n) h
unindented {C = C} costs w (Choice a b) c i j h =
    ap₂ (λ (y z : List (Measure C (List Dir))). pareto costs (all_marked Left y ++ all_marked Right z))
    (unindented costs w a c i j h.0) (unindented costs w b c i j h.1)
unindented costs w (Only dir a) c i j h = ap (all_marked dir) (unindented costs w a c i j h)
unindented {C = C} costs w (Charge k a) c i j h =
    ap (λ (z : List (Measure C (List Dir))). pareto costs (all_raised costs (costs.charge k) z))
    (unindented costs w a c i j h)
unindented costs w _ c i j h = refl

unindented_some : {C : Type 0} (costs : Costs C) (w : ℕ) (o : Option Doc) (m : Measure C (List Dir)) (i j x : ℕ) →
    ((s : Doc) → o ≡ Some s → Knows s) →
    after_some costs w o m i x ≡ after_some costs w o m j x
unfolding after
unindented_some costs w None m i j x f = refl
unindented_some {C = C} costs w (Some s) m i j x f =
    ap (λ (z : List (Measure C (List Dir))). cut x (all_shifted costs m z)) (unindented costs w s m.last i j (f s refl))

pub after_unindented : {C : Type 0} (costs : Costs C) (w : ℕ) (d : Doc) (flat : Bool) (m : Measure C (List Dir))
    (i j x : ℕ) → KnowsNoIndentation d flat →
    after_in costs w d flat m i x ≡ after_in costs w d flat m j x
unfolding after_in
after_unindented costs w d flat m i j x h =
    unindented_some costs w (simple d flat) m i j x (λ s e. core_knows d flat s h e)
