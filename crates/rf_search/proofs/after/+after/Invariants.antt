-- Each turn asks for one node fewer.
use Rattle.std.proofs.Common.{◌≡◌, ◌+◌, ◌*◌, ◌-◌, ◌≤◌, length, take}
use Rattle.rf_search.specs.Sought.{task}
use Rattle.rf_search.specs.Behind.{AreBehindAll}
use Rattle.rf_search.specs.Holding.{Holds}
use Rattle.rf_frontier.specs.Ways.{KeepsWays}
use Rattle.rf_search.proofs.Onward.{IsSoFar}
use Rattle.rf_search.proofs.after.+after.Given as goal

abbrev pub decreases-after : goal.decreases-after
decreases-after g l = 16 * l.place.now.fuel + 11

abbrev pub decreases-unless_leaf : goal.decreases-unless_leaf
decreases-unless_leaf g l = 16 * l.place.now.fuel + 10

abbrev pub decreases-in_parts : goal.decreases-in_parts
decreases-in_parts g l = 16 * l.place.now.fuel + 3

abbrev pub decreases-in_own_parts : goal.decreases-in_own_parts
decreases-in_own_parts g l = 16 * l.place.now.fuel + 4

abbrev pub decreases-ahead : goal.decreases-ahead
decreases-ahead g l = 16 * l.place.now.fuel + 13

abbrev pub decreases-in_turn : goal.decreases-in_turn
decreases-in_turn g l = 16 * l.place.now.fuel + 9

abbrev pub decreases-by_row : goal.decreases-by_row
decreases-by_row g l = 16 * l.place.now.fuel + 8

abbrev pub decreases-by_new_row : goal.decreases-by_new_row
decreases-by_new_row g l = 16 * l.place.now.fuel + 7

abbrev pub decreases-in_order : goal.decreases-in_order
decreases-in_order g l = 16 * l.place.now.fuel + 5

abbrev pub decreases-in_sequence : goal.decreases-in_sequence
decreases-in_sequence g l = 16 * l.place.now.fuel + 15

abbrev pub decreases-both : goal.decreases-both
decreases-both g l = 16 * l.place.now.fuel + 14

abbrev pub decreases-either : goal.decreases-either
decreases-either g l = 16 * l.place.now.fuel + 13

abbrev pub decreases-in_sides : goal.decreases-in_sides
decreases-in_sides g l = 16 * l.place.now.fuel + 6

abbrev pub decreases-behind_each : goal.decreases-behind_each
decreases-behind_each g l = 16 * l.place.now.fuel + 12

-- what stands behind the measures so far
abbrev pub invariant-behind_each-loop-at : goal.invariant-behind_each-loop-at
invariant-behind_each-loop-at g l =
    record {
      near : l.at ≤ length l.fn.found.several;
      older : KeepsWays l.fn.found.hows l.found.hows;
      holds : Holds (task l.setting) l.found;
      so_far : AreBehindAll (task l.setting) l.fn.found.hows l.found.hows l.place.node l.place.flat l.place.indentation l.place.cut (take l.at l.fn.found.several) l.all;
    }

abbrev pub decreases-behind_each-loop-at : goal.decreases-behind_each-loop-at
decreases-behind_each-loop-at g l = length l.fn.found.several - l.at

-- the documents of the row that is reached stand behind one measure, in their own place
abbrev pub invariant-in_sequence-loop-split : goal.invariant-in_sequence-loop-split
invariant-in_sequence-loop-split g l =
    record {
      older : KeepsWays l.fn.found.hows l.found.hows;
      holds : Holds (task l.setting) l.found;
      flat : l.here.flat ≡ l.place.flat;
      cut : l.here.cut ≡ l.place.cut;
      fuel : l.here.fuel ≤ l.place.fuel;
      so_far : IsSoFar (task l.setting) l.fn.found.hows l.found.hows l.place.node l.here.flat l.place.indentation l.here.cut l.fn.m l.m l.first l.others l.here.indentation;
    }

abbrev pub decreases-in_sequence-loop-split : goal.decreases-in_sequence-loop-split
decreases-in_sequence-loop-split g l = l.here.fuel

-- the others stand behind one measure
abbrev pub invariant-in_sequence-loop-split-2 : goal.invariant-in_sequence-loop-split-2
invariant-in_sequence-loop-split-2 g l =
    record {
      older : KeepsWays l.fn.found.hows l.found.hows;
      holds : Holds (task l.setting) l.found;
      so_far : IsSoFar (task l.setting) l.fn.found.hows l.found.hows l.place.node l.here.flat l.place.indentation l.here.cut l.fn.m l.m l.first l.others l.here.indentation;
    }

abbrev pub decreases-in_sequence-loop-split-2 : goal.decreases-in_sequence-loop-split-2
decreases-in_sequence-loop-split-2 g l = length ((task l.setting).documents.sequence l.others)
