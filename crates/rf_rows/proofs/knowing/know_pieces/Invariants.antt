-- What is known of the pieces so far, and the last gap among them.
use Rattle.std.proofs.Common.{◌≡◌, ◌<◌, ◌+◌, ℕ, length, take, Some, slice_get}
use Rattle.rf_frontier.specs.Ways.{KeepsWays}
use Rattle.rf_rows.specs.declared.pieces.Piece.TheVariants.{Gap}
use Rattle.rf_rows.specs.Cells.{cell_at, pieces_of}
use Rattle.rf_rows.specs.Knowing.{chain, spaced, IsGathered}
use Rattle.rf_rows.proofs.knowing.know_pieces.Given as goal

abbrev pub invariant-loop-i : goal.invariant-loop-i
invariant-loop-i l = record {
  lines : IsGathered l.hows (chain (spaced (cell_at l.laid.rows.now.pieces.items l.laid.rows.now.cells.items) (take l.i (pieces_of l.laid.rows.now.pieces.items l.cell)))) l.gathered;
  before : (j : ℕ) → j < l.i → slice_get (pieces_of l.laid.rows.now.pieces.items l.cell) j ≡ Some Gap → j < l.gaps;
  there : (j : ℕ) → l.gaps ≡ j + 1 → slice_get (pieces_of l.laid.rows.now.pieces.items l.cell) j ≡ Some Gap;
  older : KeepsWays l.fn.hows l.hows;
  some : 0 < length l.hows;
}
