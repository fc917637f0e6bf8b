-- What is known of the cells so far, in order, by ways that keep the older ones.
use Rattle.std.proofs.Common.{◌≡◌, ◌<◌, length}
use Rattle.rf_frontier.specs.Ways.{KeepsWays}
use Rattle.rf_rows.specs.Knowing.{AreKnownCells}
use Rattle.rf_rows.proofs.knowing.know_cells.Given as goal

abbrev pub invariant-loop-k : goal.invariant-loop-k
invariant-loop-k l = record {
  before : length l.known.items ≡ l.k;
  known : AreKnownCells l.hows l.laid.rows.now.pieces.items l.laid.rows.now.cells.items l.known.items;
  older : KeepsWays l.fn.hows l.hows;
  some : 0 < length l.hows;
}
