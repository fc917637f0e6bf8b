-- The best layout of a document within a width.
use Rattle.std.specs.Prelude.{◌≡◌, ◌↔◌, ℕ, Bool, false, IsTrue, List, Some}
use Rattle.rf_base_document.specs.declared.directions.Dir.{Dir}
use Rattle.rf_base_document.specs.Document.{Doc}
use Rattle.rf_base_document.specs.Render.{Laid}
use Rattle.rf_base_document.specs.Picks.{LaidOutBy}
use Rattle.rf_base_document.specs.Simple.{simple}
use Rattle.rf_base_cost.specs.Cost.{Costs}
use Rattle.rf_base_optimum.specs.Best.{HasWithin}
use Rattle.rf_base_optimum.specs.Chosen.{choose}

-- the choices are those that are chosen of the document's core, and pick a resolution that has a layout; and the flag
-- says whether some resolution is within the width
pub record IsBest {C : Type 0} (costs : Costs C) (w : ℕ) (d : Doc) (choices : List Dir) (within : Bool) : Type 0 where
  pub chosen : (s : Doc) → simple d false ≡ Some s → choices ≡ (choose costs w s 0 0).choices
  pub laid : (whole : Laid) × LaidOutBy d choices 0 0 false whole
  pub within_is : IsTrue within ↔ HasWithin w d 0 0 false
