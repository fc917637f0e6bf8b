-- What is known of the nodes so far, in order, by ways that keep the older ones.
use Rattle.std.proofs.Common.{◌≡◌, ◌<◌, length}
use Rattle.rf_frontier.specs.Ways.{KeepsWays}
use Rattle.rf_outline.specs.Known.{AreKnown}
use Rattle.rf_outline.proofs.outlining.outline.Given as goal

abbrev pub invariant-loop-n : goal.invariant-loop-n
invariant-loop-n l = record {
  before : length l.list.items ≡ l.n;
  known : AreKnown l.hows l.graph l.list.items;
  older : KeepsWays l.fn.hows l.hows;
  some : 0 < length l.hows;
}
