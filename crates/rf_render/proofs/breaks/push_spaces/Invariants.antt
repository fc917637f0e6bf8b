-- What is written and what is left are the spaces asked for.
use Rattle.std.proofs.Common.{◌≡◌, ◌-◌, ◌≤◌, ◌++◌}
use Rattle.std.proofs.Math.ListN.{replicate}
use Rattle.std.specs.String.{string_bytes}
use Rattle.rf_render.proofs.breaks.push_spaces.Given as goal

abbrev pub invariant-loop-left : goal.invariant-loop-left
invariant-loop-left l = record {
  some : l.left ≤ l.count;
  written : string_bytes l.text ≡ string_bytes l.initial.text ++ replicate (l.count - l.left) 32;
}

abbrev pub decreases-loop-left : goal.decreases-loop-left
decreases-loop-left l = l.left
