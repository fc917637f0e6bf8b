-- A document as the only piece of a stack.
use Rattle.std.specs.Prelude.{◌≡◌, [], ◌∷◌}
use Rattle.rf_base_document.specs.Document.{Doc}
use Rattle.rf_rows.specs.declared.pieces.Fill.{Fill}
use Rattle.rf_rows.specs.declared.rows.Rows.{Rows}
use Rattle.rf_rows.specs.Rows.{stacked}

-- the document stands alone on the stack of the rows, whatever fills the gaps of its pieces
abbrev pub StandsAlone : Rows → Doc → Type 0
StandsAlone rows d = (fill : Fill) → stacked rows fill ≡ d ∷ []
