-- What a resolution is rendered as.
use Rattle.std.specs.Prelude.{◌≡◌, ℕ, ◌≤◌, false, List, length, Some}
use Rattle.rf_base_document.specs.declared.directions.Dir.{Dir}
use Rattle.rf_base_document.specs.declared.limits.TheConstants.{LAYOUT_LIMIT}
use Rattle.rf_base_document.specs.Document.{Doc}
use Rattle.rf_base_document.specs.Render.{Laid, render, layout}
use Rattle.rf_base_document.specs.Picks.{weight_of}

-- the text is the layout of the resolution e that the choices pick, and neither it nor the weight is past the limit
abbrev pub IsRendered : Doc → List Dir → List ℕ → Type 0
IsRendered e choices text =
    (whole : Laid) × (render e 0 0 false ≡ Some whole) × (text ≡ layout whole.pieces)
    × (length text ≤ LAYOUT_LIMIT) × (weight_of e choices ≤ LAYOUT_LIMIT)
