-- Resolutions that are too long to be laid out.
use Rattle.std.specs.Prelude.{◌≡◌, ◌<◌, ◌⊎◌, false, List, length, Some}
use Rattle.rf_base_document.specs.declared.directions.Dir.{Dir}
use Rattle.rf_base_document.specs.declared.limits.TheConstants.{LAYOUT_LIMIT}
use Rattle.rf_base_document.specs.Document.{Doc}
use Rattle.rf_base_document.specs.Render.{Laid, render, layout}
use Rattle.rf_base_document.specs.Picks.{weight_of}

-- the layout of the resolution e that the choices pick, or its weight, is past the limit
abbrev pub IsTooLong : Doc → List Dir → Type 0
IsTooLong e choices =
    (whole : Laid) × (render e 0 0 false ≡ Some whole)
    × ((LAYOUT_LIMIT < length (layout whole.pieces)) ⊎ (LAYOUT_LIMIT < weight_of e choices))
