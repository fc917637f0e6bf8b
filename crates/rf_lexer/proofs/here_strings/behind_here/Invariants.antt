-- What is behind the here string from the line on is behind it from the start on.
use Rattle.std.proofs.Common.{Option, Some, List, ℕ, length}
use denote.Text.{Utf8}
use denote.Shadow.{shadow}
use Rattle.std.specs.Borrow.{Bor}
use Rattle.std.specs.Str.{chars}
use Rattle.rf_base_grammar.specs.Cuts.{here_cut}
use Rattle.rf_lexer.specs.Places.{IsBehind}
use Rattle.rf_lexer.proofs.here_strings.behind_here.Given as goal

abbrev pub invariant-loop-rest : goal.invariant-loop-rest
invariant-loop-rest l =
    record {
      utf8 : shadow (Utf8 l.lines);
      from_here : (r : Option (Bor (List ℕ))) → IsBehind (here_cut (chars l.terminator) (Some (chars l.terminator)) (chars l.lines)) r → IsBehind (here_cut (chars l.terminator) (Some (chars l.terminator)) (chars l.text)) r;
    }

abbrev pub decreases-loop-rest : goal.decreases-loop-rest
decreases-loop-rest l = length (chars l.lines)
