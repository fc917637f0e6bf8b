-- A document is laid out in one way.
use Rattle.std.proofs.Common.{◌≡◌, ℕ, false, List, sym, ◌∙◌, ap, subst, Some}
use Rattle.rf_base_document.specs.declared.directions.Dir.{Dir}
use Rattle.rf_base_document.specs.Document.{Doc}
use Rattle.rf_base_document.specs.Render.{Laid, render, layout}
use Rattle.rf_base_document.specs.Picks.{Picks}
use Rattle.rf_base_document.proofs.Picked.{picks_one}
use Rattle.rf_base_optimum.specs.Chosen.{choose}
use Rattle.rf_base_file.specs.LaidOut.{Objective, IsLaidOut}

pub one_layout : {C : Type 0} (objective : Objective C) (d : Doc) (x y : List Dir) (e f : Doc) (text other : List ℕ) →
    IsLaidOut objective d x e text → IsLaidOut objective d y f other → (x ≡ y) × (e ≡ f) × (text ≡ other)
one_layout objective d x y e f text other h k =
    let cores : Some h.core ≡ Some k.core = sym h.core_is ∙ k.core_is in
    let core : h.core ≡ k.core = cc in
    let choices : x ≡ y =
    h.chosen ∙ ap (λ (s : Doc). (choose objective.costs objective.limit s 0 0).choices) core ∙ sym k.chosen in
    let one : e ≡ f = picks_one d y e f (subst (λ (l : List Dir). Picks d l e) choices h.picked) k.picked in
    let wholes : Some h.whole ≡ Some k.whole = sym h.rendered ∙ ap (λ r. render r 0 0 false) one ∙ k.rendered in
    let whole : h.whole ≡ k.whole = cc in
    (choices, one, h.text_is ∙ ap (λ (w : Laid). layout w.pieces) whole ∙ sym k.text_is)
