-- Resolutions that are laid out on a paper.
use Rattle.std.specs.Prelude.{◌≡◌, ℕ, false, List, Some}
use Rattle.rf_base_document.specs.declared.directions.Dir.{Dir}
use Rattle.rf_base_document.specs.Document.{Doc}
use Rattle.rf_base_document.specs.Render.{Piece, Laid, render}
use Rattle.rf_base_document.specs.Picks.{weight_of}

-- the layout of the resolution e that the choices pick stands on the paper, and the weight is counted
abbrev pub IsLaidOn : (List Piece → ℕ → Type 0) → Doc → List Dir → Type 0
IsLaidOn holds e choices = (whole : Laid) × (render e 0 0 false ≡ Some whole) × holds whole.pieces (weight_of e choices)
