-- All nodes up to now are counted.
use Rattle.std.proofs.Common.{◌≤◌, ◌-◌, ◌+◌, length}
use Rattle.rf_documents.specs.Pieces.{AreCounted}
use Rattle.rf_documents.proofs.pieces.count_pieces.Given as goal

abbrev pub invariant-loop-counts : goal.invariant-loop-counts
invariant-loop-counts l = record {
  counted : AreCounted l.graph l.counts.items;
  within : length l.counts.items ≤ l.root.0 + 1;
}

abbrev pub decreases-loop-counts : goal.decreases-loop-counts
decreases-loop-counts l = l.root.0 + 1 - length l.counts.items
