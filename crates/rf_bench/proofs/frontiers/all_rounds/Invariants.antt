-- Both frontiers belong to the ways, however many there are by now.
use Rattle.rf_frontier.specs.Frontiers.{BelongTo}
use Rattle.rf_bench.proofs.frontiers.all_rounds.Given as goal

abbrev pub invariant-loop-round : goal.invariant-loop-round
invariant-loop-round g l = record { even : BelongTo l.hows l.even; odd : BelongTo l.hows l.odd }
