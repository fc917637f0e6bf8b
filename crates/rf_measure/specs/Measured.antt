-- What a resolution is measured as.
use Rattle.std.specs.Prelude.{◌≡◌, ℕ, ◌≤◌, false, List, length, Some}
use Rattle.rf_base_document.specs.declared.directions.Dir.{Dir}
use Rattle.rf_base_document.specs.declared.limits.TheConstants.{LAYOUT_LIMIT}
use Rattle.rf_base_document.specs.Document.{Doc}
use Rattle.rf_base_document.specs.Render.{Laid, render, layout}
use Rattle.rf_base_document.specs.Picks.{weight_of}
use Rattle.rf_base_cost.specs.Cost.{Costs, cost_of}

-- the layout of the resolution e that the choices pick has this cost and ends at this column, and neither it nor the
-- weight is past the limit
abbrev pub IsMeasured : {C : Type 0} → Costs C → Doc → List Dir → C → ℕ → Type 0
IsMeasured costs e choices cost last =
    (whole : Laid) × (render e 0 0 false ≡ Some whole) × (cost_of costs whole.pieces ≡ Some cost) × (last ≡ whole.last)
    × (length (layout whole.pieces) ≤ LAYOUT_LIMIT) × (weight_of e choices ≤ LAYOUT_LIMIT)
