-- The loop counts up to the number of measures.
use Rattle.std.proofs.Common.{◌-◌, ◌≤◌, length}
use Rattle.rf_frontier_tests.proofs.showing.shown.Given as goal

abbrev pub invariant-loop-at : goal.invariant-loop-at
invariant-loop-at l = l.at ≤ length l.measures

abbrev pub decreases-loop-at : goal.decreases-loop-at
decreases-loop-at l = length l.measures - l.at
