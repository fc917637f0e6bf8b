-- The items so far lead to the text that is left.
use Rattle.std.proofs.Common.{length}
use denote.Text.{Utf8}
use denote.Shadow.{shadow}
use Rattle.std.specs.Str.{chars}
use Rattle.rf_lexer.proofs.NextItems.{Reads}
use Rattle.rf_lexer.proofs.scan.lex.Given as goal

abbrev pub invariant-loop-kind : goal.invariant-loop-kind
invariant-loop-kind l =
    record {
      utf8 : shadow (Utf8 l.text);
      read : Reads l.src l.text l.items.items l.before;
    }

abbrev pub decreases-loop-kind : goal.decreases-loop-kind
decreases-loop-kind l = length (chars l.text)
