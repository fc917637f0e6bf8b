-- The measures so far, each behind the one, none of which ends by the column of the cut.
use Rattle.std.proofs.Common.{◌≡◌, ◌≤◌, ◌++◌, ◌-◌, length, take, drop}
use Rattle.rf_base_cut.specs.Cut.{cut}
use Rattle.rf_frontier.specs.Ways.{KeepsWays}
use Rattle.rf_search.specs.Sought.{task}
use Rattle.rf_search.proofs.Shifts.{AreShifted}
use Rattle.rf_search.proofs.behind.shifted.Given as goal

abbrev pub invariant-loop-at : goal.invariant-loop-at
invariant-loop-at g l =
    record {
      near : l.at ≤ length l.row;
      older : KeepsWays l.fn.hows l.hows;
      so_far : AreShifted (task l.setting).costs l.fn.hows l.hows l.fn.m (take l.at l.row) l.all;
      uncut : cut l.x l.row ≡ take l.at l.row ++ cut l.x (drop l.at l.row);
    }

abbrev pub decreases-loop-at : goal.decreases-loop-at
decreases-loop-at g l = length l.row - l.at
