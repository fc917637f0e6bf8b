-- What is behind the string from the place on is behind it from the start on.
use Rattle.std.proofs.Common.{Option, List, ℕ, length, false}
use denote.Text.{Utf8}
use denote.Shadow.{shadow}
use Rattle.std.specs.Borrow.{Bor}
use Rattle.std.specs.Str.{chars}
use Rattle.rf_base_grammar.specs.Cuts.{string_cut}
use Rattle.rf_lexer.specs.Places.{IsBehind}
use Rattle.rf_lexer.proofs.strings.behind_string.Given as goal

abbrev pub invariant-loop-c : goal.invariant-loop-c
invariant-loop-c l =
    record {
      utf8 : shadow (Utf8 l.rest);
      from_here : (r : Option (Bor (List ℕ))) → IsBehind (string_cut l.escaped (chars l.rest)) r → IsBehind (string_cut false (chars l.text)) r;
    }

abbrev pub decreases-loop-c : goal.decreases-loop-c
decreases-loop-c l = length (chars l.rest)
