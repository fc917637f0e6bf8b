-- What a resolution is written as.
use Rattle.std.specs.Prelude.{◌≡◌, ◌≤◌, false, List, length, Some}
use Rattle.std.specs.Str.{chars}
use Rattle.std.specs.String.{string_bytes}
use Rattle.rf_base_document.specs.declared.directions.Dir.{Dir}
use Rattle.rf_base_document.specs.declared.limits.TheConstants.{LAYOUT_LIMIT}
use Rattle.rf_base_document.specs.Document.{Doc}
use Rattle.rf_base_document.specs.Render.{Laid, render, layout}
use Rattle.rf_base_document.specs.Picks.{weight_of}
use Rattle.rf_base_cost.specs.Cost.{Costs, cost_of}
use Rattle.rf_whole.specs.declared.sheets.Written.{Written}
use Rattle.rf_whole.specs.Sheets.{IsWidest}

-- the text, the cost, the greatest column and the weight are those of the resolution e that the choices pick, which
-- isn't past the limit
pub record IsWritten {C : Type 0} (costs : Costs C) (e : Doc) (choices : List Dir) (written : Written C) : Type 0 where
  pub whole : Laid
  pub rendered : render e 0 0 false ≡ Some whole
  pub text_is : chars (string_bytes written.text) ≡ layout whole.pieces
  pub cost_is : cost_of costs whole.pieces ≡ Some written.cost
  pub widest_is : IsWidest written.widest whole.pieces
  pub weight_is : written.weight ≡ weight_of e choices
  pub short : length (chars (string_bytes written.text)) ≤ LAYOUT_LIMIT
  pub light : written.weight ≤ LAYOUT_LIMIT
