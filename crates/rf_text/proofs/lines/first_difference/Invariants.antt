-- Where the rest of the two part is where they part; the number of the line is at most that of the bytes before, and 1.
use Rattle.std.proofs.Common.{◌≡◌, ◌≤◌, ◌+◌, drop, length}
use Rattle.rf_text.proofs.Apart.{apart_from}
use Rattle.rf_text.proofs.lines.first_difference.Given as goal

abbrev pub invariant-loop-i : goal.invariant-loop-i
invariant-loop-i l =
    (l.line ≤ l.i + 1) × (l.i ≤ length l.b) × (apart_from l.line (drop l.i l.a) (drop l.i l.b) ≡ apart_from 1 l.a l.b)
