-- Byte by byte: those before are plain, if the greatest that was told of them is below 128.
use Rattle.std.proofs.Common.{length, ◌-◌, ◌≡◌, ◌≤◌, ◌<◌, true, take}
use Rattle.std.specs.List.{list_all}
use Rattle.rf_text.specs.Lines.{is_plain}
use Rattle.rf_text.proofs.lines.are_plain.Given as goal

abbrev pub invariant-loop-at : goal.invariant-loop-at
invariant-loop-at l = (l.at ≤ length l.bytes) × (l.most < 128 → list_all is_plain (take l.at l.bytes) ≡ true)

abbrev pub decreases-loop-at : goal.decreases-loop-at
decreases-loop-at l = length l.bytes - l.at
