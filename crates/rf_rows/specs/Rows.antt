-- What stands on the stack.
use Rattle.rf_rows.specs.Layouts.{Filled}
use Rattle.rf_rows.specs.Cells.{filled_by, cell_at}
use Rattle.rf_rows.specs.Unmade.{AllAreMade}
use Rattle.rf_rows.specs.declared.rows.Rows.{Rows}

-- the documents of the stack, by what stands in their gaps, the topmost last
abbrev pub stacked : Rows → Filled
stacked rows = filled_by (cell_at rows.pieces.items rows.cells.items) rows.stack.items

-- no cell is a list that isn't made
abbrev pub AreMade : Rows → Type 0
AreMade rows = AllAreMade rows.cells.items
