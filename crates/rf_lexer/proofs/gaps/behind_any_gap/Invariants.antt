-- The gap from the place on is the end of the gap from the start on.
use Rattle.std.proofs.Common.{ℕ, List, ◌+◌, ◌≤◌, length}
use denote.Text.{Utf8}
use denote.Shadow.{shadow}
use Rattle.std.specs.Str.{chars}
use Rattle.rf_lexer.specs.Gaps.{EndsGap}
use Rattle.rf_lexer.proofs.gaps.behind_any_gap.Given as goal

abbrev pub invariant-loop-c : goal.invariant-loop-c
invariant-loop-c l =
    record {
      utf8 : shadow (Utf8 l.rest);
      few : l.feeds + length (chars l.rest) ≤ length (chars l.text);
      from_here : (n : ℕ) (r : List ℕ) → EndsGap (chars l.rest) n r → EndsGap (chars l.text) (l.feeds + n) r;
    }

abbrev pub decreases-loop-c : goal.decreases-loop-c
decreases-loop-c l = length (chars l.rest)
