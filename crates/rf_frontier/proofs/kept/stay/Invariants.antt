-- The list is cut no earlier.
use Rattle.std.proofs.Common.{◌≡◌, ◌≤◌, ◌++◌, ◌-◌, length, take, drop}
use Rattle.rf_base_cut.specs.Cut.{cut}
use Rattle.rf_frontier.proofs.kept.stay.Given as goal

abbrev pub invariant-loop-at : goal.invariant-loop-at
invariant-loop-at g l =
    record {
      near : l.at ≤ length l.measures;
      so_far : cut l.x l.measures ≡ take l.at l.measures ++ cut l.x (drop l.at l.measures);
    }

abbrev pub decreases-loop-at : goal.decreases-loop-at
decreases-loop-at g l = length l.measures - l.at
