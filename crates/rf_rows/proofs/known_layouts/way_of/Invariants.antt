-- The way so far is one of the choices from the place on.
use Rattle.std.specs.Prelude.{◌≡◌, ◌<◌, ◌≤◌, length, drop}
use Rattle.rf_frontier.specs.Ways.{choices_of, KeepsWays}
use Rattle.rf_rows.proofs.known_layouts.way_of.Given as goal

abbrev pub invariant-loop-at : goal.invariant-loop-at
invariant-loop-at l = record {
  within : l.at ≤ length l.fn.turns;
  in_ways : l.way.0 < length l.hows;
  choices : choices_of l.hows l.way.0 ≡ drop l.at l.fn.turns;
  older : KeepsWays l.fn.hows l.hows;
}

abbrev pub decreases-loop-at : goal.decreases-loop-at
decreases-loop-at l = l.at
