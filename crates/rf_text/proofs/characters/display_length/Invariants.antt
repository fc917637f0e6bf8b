-- The columns so far, and those of the characters that are left, are those of the text.
use Rattle.std.proofs.Common.{◌≡◌, ◌+◌, length, drop}
use Rattle.std.specs.Str.{chars}
use Rattle.rf_base_style.specs.Columns.{display_length}
use Rattle.rf_text.proofs.characters.display_length.Given as goal

abbrev pub invariant-loop-c : goal.invariant-loop-c
invariant-loop-c l = l.total + display_length (drop (length l.yielded) (chars l.s)) ≡ display_length (chars l.s)
