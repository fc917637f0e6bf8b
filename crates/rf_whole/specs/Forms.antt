-- What a form is laid out as by itself.
use Rattle.std.specs.Prelude.{ℕ, ◌≡◌, ◌≤◌, ◌↔◌, Bool, false, IsTrue, List, length, Some}
use Rattle.rf_base_document.specs.declared.directions.Dir.{Dir}
use Rattle.rf_base_document.specs.declared.limits.TheConstants.{LAYOUT_LIMIT}
use Rattle.rf_base_document.specs.Document.{Doc}
use Rattle.rf_base_document.specs.Render.{Laid, render, layout}
use Rattle.rf_base_document.specs.Picks.{Picks, weight_of}
use Rattle.rf_base_document.specs.Simple.{simple}
use Rattle.rf_base_document.specs.TooLong.{IsTooLong}
use Rattle.rf_base_cost.specs.Cost.{Costs, cost_of}
use Rattle.rf_base_optimum.specs.Best.{HasWithin}
use Rattle.rf_base_optimum.specs.Paragraphs.{chosen_of}

-- the choices are those that are chosen of the document's core, and pick a resolution of it; the text, the cost and the
-- weight are the resolution's, which isn't past the limit; and it is within the columns exactly where some resolution
-- is
pub record IsForm {C : Type 0} (costs : Costs C) (w : ℕ) (d : Doc) (choices : List Dir) (text : List ℕ) (cost : C)
    (within : Bool) (weight : ℕ) : Type 0 where
  pub chosen : choices ≡ chosen_of costs w (simple d false)
  pub resolution : Doc
  pub picked : Picks d choices resolution
  pub whole : Laid
  pub rendered : render resolution 0 0 false ≡ Some whole
  pub text_is : text ≡ layout whole.pieces
  pub cost_is : cost_of costs whole.pieces ≡ Some cost
  pub within_is : IsTrue within ↔ HasWithin w d 0 0 false
  pub weight_is : weight ≡ weight_of resolution choices
  pub short : length text ≤ LAYOUT_LIMIT
  pub light : weight ≤ LAYOUT_LIMIT

-- the resolution that is chosen of the document's core is past the limit
abbrev pub IsLongForm : {C : Type 0} → Costs C → ℕ → Doc → Type 0
IsLongForm costs w d =
    (e : Doc) × Picks d (chosen_of costs w (simple d false)) e × IsTooLong e (chosen_of costs w (simple d false))
