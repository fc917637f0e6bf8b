-- What is behind is cut off.
use Rattle.std.proofs.Common.{◌≡◌, ◌≤◌, length, take}
use Rattle.rf_base_cut.specs.Cut.{cut}
use Rattle.rf_frontier.proofs.kept.stay_from_end.Given as goal

abbrev pub invariant-loop-stay : goal.invariant-loop-stay
invariant-loop-stay g l =
    record {
      near : l.stay ≤ length l.measures;
      so_far : cut l.x (take l.stay l.measures) ≡ cut l.x l.measures;
    }

abbrev pub decreases-loop-stay : goal.decreases-loop-stay
decreases-loop-stay g l = l.stay
