-- What holds of all rows.
use Rattle.std.specs.Prelude.{◌≡◌, ℕ, ◌<◌, Option, None, List, length}
use Rattle.std.specs.List.{All}
use Rattle.rf_base_document.specs.declared.directions.Dir.{Dir}
use Rattle.rf_rows.specs.declared.pieces.Piece.{Piece}
use Rattle.rf_rows.specs.declared.cells.Cell.{Cell}
use Rattle.rf_rows.specs.Cells.{IsBelow, CellsStand}
use Rattle.rf_rows.specs.Unmade.{HaveLines, AllAreMade}

-- each cell and each piece stands behind the cells that it names, a number of 32 bits has room for one piece more of
-- the cells, and for one more of the stack, the lines of lists that aren't made are as they are told, and all are made
-- where it is so asked
pub record AreRows (ps : List Piece) (cs : List Cell) (on : List Piece) (turns : List Dir) (free : Option ℕ) :
    Type 0 where
  pub cells : CellsStand ps cs
  pub pieces : All (IsBelow (length cs)) ps
  pub stack : All (IsBelow (length cs)) on
  pub few : length ps < 4294967295
  pub low : length on < 4294967295
  pub lines : HaveLines cs turns
  pub made : free ≡ None → AllAreMade cs
