-- What stands behind the measures so far.
use Rattle.std.proofs.Common.{◌≤◌, ◌-◌, length, take}
use Rattle.rf_search.specs.Sought.{task}
use Rattle.rf_search.specs.Behind.{AreBehindAll}
use Rattle.rf_search.proofs.leaves.leaf_behind_each.Given as goal

abbrev pub invariant-loop-at : goal.invariant-loop-at
invariant-loop-at g l =
    record {
      near : l.at ≤ length l.firsts;
      so_far : AreBehindAll (task l.setting) l.found.hows l.found.hows l.place.node l.place.flat l.place.indentation l.place.cut (take l.at l.firsts) l.all;
    }

abbrev pub decreases-loop-at : goal.decreases-loop-at
decreases-loop-at g l = length l.firsts - l.at
