-- How large rows are, by the nodes that they take where they become a graph.
use Rattle.std.specs.Prelude.{ℕ, ◌+◌, ◌*◌, ◌≤◌, List, [], ◌∷◌, length}
use Rattle.rf_rows.specs.declared.cells.Cell.{Cell}
use Rattle.rf_rows.specs.declared.rows.Rows.{Rows}

-- 4 for each piece of a cell, which is a text of its own perhaps and stands in three layouts at most, and 24 for the
-- cell: for each of its layouts what is aligned, flat, charged or nested in it, and the choices among them
unfoldable pub cells_size : List Cell → ℕ
cells_size [] = 0
cells_size (c ∷ cs) = 4 * c.count + 24 + cells_size cs

-- the same of the pieces that are in no cell yet, too
abbrev pub rows_size : Rows → ℕ
rows_size rows = cells_size rows.cells.items + 4 * length rows.stack.items

-- they grew by at most this
abbrev pub Grows : ℕ → Rows → Rows → Type 0
Grows n old new = rows_size new ≤ rows_size old + n
