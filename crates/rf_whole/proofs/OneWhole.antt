-- A file has one layout, and it isn't too long.
use Rattle.std.proofs.Common.{◌≡◌, ℕ, Bool, true, false, List, length, refl, sym, ◌∙◌, ap, subst, inl, inr, Some, arith}
use Rattle.std.specs.Prelude.{◌↔◌, IsTrue}
use Rattle.rf_base_document.specs.declared.directions.Dir.{Dir}
use Rattle.rf_base_document.specs.Document.{Doc}
use Rattle.rf_base_document.specs.Render.{Laid, render, layout}
use Rattle.rf_base_document.specs.Picks.{Picks, weight_of}
use Rattle.rf_base_document.specs.TooLong.{IsTooLong}
use Rattle.rf_base_document.proofs.Picked.{picks_one}
use Rattle.rf_base_cost.specs.Cost.{cost_of}
use Rattle.rf_base_grammar.specs.Token.{Token}
use Rattle.rf_base_style.specs.Table.{StyleView}
use Rattle.rf_base_tree.specs.Trees.{Forest}
use Rattle.rf_base_file.specs.LaidOut.{source_doc, Objective}
use Rattle.rf_base_file.specs.Formatted.{Layout}
use Rattle.rf_whole.specs.Whole.{IsWhole, IsWholeLong}

same_truth : {P : Type 0} (x y : Bool) → IsTrue x ↔ P → IsTrue y ↔ P → x ≡ y
same_truth true false h k = sym (k.1 (h.0 refl))
same_truth false true h k = h.1 (k.0 refl)
same_truth _ _ h k = refl

one_layout : (e f : Doc) (first second : Laid) → e ≡ f → render e 0 0 false ≡ Some first → render f 0 0 false ≡ Some second → first ≡ second
one_layout e f first second same h k = let wholes : Some first ≡ Some second = sym h ∙ ap (λ (r : Doc). render r 0 0 false) same ∙ k in cc

one_cost : {C : Type 0} (objective : Objective C) (first second : Laid) (a b : C) → first ≡ second → cost_of objective.costs first.pieces ≡ Some a → cost_of objective.costs second.pieces ≡ Some b → a ≡ b
one_cost objective first second a b same h k = let both : Some a ≡ Some b = sym h ∙ ap (λ (l : Laid). cost_of objective.costs l.pieces) same ∙ k in cc

made : {C : Type 0} → List Dir → List ℕ → C → Bool → Layout C
made choices text cost within = record { choices = choices; text = text; cost = cost; within = within }

same_parts : {C : Type 0} (x y : List Dir) (s t : List ℕ) (a b : C) (p q : Bool) → x ≡ y → s ≡ t → a ≡ b → p ≡ q → made x s a p ≡ made y t b q
same_parts x y s t a b p q h k i j = cc

same_layout : {C : Type 0} (given other : Layout C) → given.choices ≡ other.choices → given.text ≡ other.text → given.cost ≡ other.cost → given.within ≡ other.within → given ≡ other
unfolding made
same_layout given other h k p q = same_parts given.choices other.choices given.text other.text given.cost other.cost given.within other.within h k p q

pub one_whole : {C : Type 0} (objective : Objective C) (style : StyleView) (ts : List Token) (trees : Forest) (given other : Layout C) → IsWhole objective style ts trees given →
    IsWhole objective style ts trees other → given ≡ other
one_whole objective style ts trees given other h k =
    let choices : given.choices ≡ other.choices = h.chosen ∙ sym k.chosen in
    let one : h.resolution ≡ k.resolution =
    picks_one (source_doc style ts trees) other.choices h.resolution k.resolution (subst (λ (l : List Dir). Picks (source_doc style ts trees) l h.resolution) choices h.picked) k.picked in
    let whole = one_layout h.resolution k.resolution h.whole k.whole one h.rendered k.rendered in
    same_layout given other choices (h.text_is ∙ ap (λ (l : Laid). layout l.pieces) whole ∙ sym k.text_is)
    (one_cost objective h.whole k.whole given.cost other.cost whole h.cost_is k.cost_is) (same_truth given.within other.within h.within_is k.within_is)

pub whole_or_too_long : {C : Type 0} (objective : Objective C) (style : StyleView) (ts : List Token) (trees : Forest) (given : Layout C) → IsWhole objective style ts trees given →
    IsWholeLong objective style ts trees → ⊥
whole_or_too_long objective style ts trees given h k =
    let long = subst (λ (l : List Dir). (e : Doc) × Picks (source_doc style ts trees) l e × IsTooLong e l) (sym h.chosen) k in
    let one : h.resolution ≡ long.0 = picks_one (source_doc style ts trees) given.choices h.resolution long.0 h.picked long.1 in
    let whole = one_layout h.resolution long.0 h.whole long.2.0 one h.rendered long.2.1 in
    let size : length given.text ≡ length (layout long.2.0.pieces) = ap length (h.text_is ∙ ap (λ (l : Laid). layout l.pieces) whole) in
    let weight : weight_of h.resolution given.choices ≡ weight_of long.0 given.choices = ap (λ (e : Doc). weight_of e given.choices) one in
    let short = h.short in
    elim long.2.2 [ inl far ↦ omega (arith, far, size, short) | inr heavy ↦ omega (arith, heavy, weight, short) ]
