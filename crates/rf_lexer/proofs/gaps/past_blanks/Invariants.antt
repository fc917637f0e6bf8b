-- Blanks alone stand before the rest.
use Rattle.std.proofs.Common.{length}
use denote.Text.{Utf8}
use denote.Shadow.{shadow}
use Rattle.std.specs.Str.{chars}
use Rattle.rf_base_grammar.specs.LanguageLine.{is_blank}
use Rattle.rf_lexer.specs.Classes.{IsBehindMarks}
use Rattle.rf_lexer.proofs.gaps.past_blanks.Given as goal

abbrev pub invariant-loop-rest : goal.invariant-loop-rest
invariant-loop-rest l =
    record {
      utf8 : shadow (Utf8 l.rest);
      blanks : IsBehindMarks is_blank (chars l.text) (chars l.rest);
    }

abbrev pub decreases-loop-rest : goal.decreases-loop-rest
decreases-loop-rest l = length l.rest
