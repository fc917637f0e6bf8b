-- Byte by byte: those before are ASCII characters, if the greatest of them is.
use Rattle.std.proofs.Common.{length, ◌-◌, ◌≤◌, ◌<◌, take}
use Rattle.std.specs.Str.{IsAscii}
use Rattle.rf_doc.proofs.characters.greatest.Given as goal

abbrev pub invariant-loop-at : goal.invariant-loop-at
invariant-loop-at l = (l.at ≤ length l.bytes) × (l.most < 128 → IsAscii (take l.at l.bytes))

abbrev pub decreases-loop-at : goal.decreases-loop-at
decreases-loop-at l = length l.bytes - l.at
