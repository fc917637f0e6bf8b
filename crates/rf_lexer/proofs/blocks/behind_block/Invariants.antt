-- What is behind the comment from the place on is behind it from the start on.
use Rattle.std.proofs.Common.{Option, List, ℕ, length, ◌≤◌, ◌+◌}
use denote.Text.{Utf8}
use denote.Shadow.{shadow}
use Rattle.std.specs.Borrow.{Bor}
use Rattle.std.specs.Str.{chars}
use Rattle.rf_base_grammar.specs.Cuts.{block_cut, NoHalf}
use Rattle.rf_lexer.specs.Blocks.{left_of}
use Rattle.rf_lexer.specs.Places.{IsBehind}
use Rattle.rf_lexer.proofs.blocks.behind_block.Given as goal

abbrev pub invariant-loop-c : goal.invariant-loop-c
invariant-loop-c l =
    record {
      utf8 : shadow (Utf8 l.rest);
      few : l.inside.around + length (chars l.rest) ≤ length (chars l.text);
      from_here : (r : Option (Bor (List ℕ))) → IsBehind (left_of l.inside (chars l.rest)) r → IsBehind (block_cut 0 NoHalf (chars l.text)) r;
    }

abbrev pub decreases-loop-c : goal.decreases-loop-c
decreases-loop-c l = length (chars l.rest)
