-- The measures that were passed have the ways that were planned for them.
use Rattle.std.proofs.Common.{◌≤◌, ◌+◌, length}
use Rattle.rf_frontier.proofs.Made.{Making}
use Rattle.rf_frontier.proofs.making.make_each.Given as goal

abbrev pub invariant-loop-left : goal.invariant-loop-left
invariant-loop-left g l = record {
  making : Making l.fn.hows l.hows l.made.items l.left l.planned;
  few_more : length l.hows + length l.left ≤ length l.fn.hows + length l.planned;
}

abbrev pub decreases-loop-left : goal.decreases-loop-left
decreases-loop-left g l = length l.left
