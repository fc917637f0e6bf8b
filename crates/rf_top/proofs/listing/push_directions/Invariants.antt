-- The directions so far.
use Rattle.std.proofs.Common.{◌≡◌, ◌++◌, take}
use Rattle.std.specs.String.{string_bytes}
use Rattle.rf_top.specs.Answer.{directions}
use Rattle.rf_top.proofs.listing.push_directions.Given as goal

abbrev pub invariant-loop-dir : goal.invariant-loop-dir
invariant-loop-dir l = string_bytes l.line ≡ string_bytes l.initial.line ++ directions (take l.dir-index l.choices)
