-- The characters of the class go on from the place.
use Rattle.std.proofs.Common.{◌≡◌, length}
use denote.Text.{Utf8}
use denote.Shadow.{shadow}
use Rattle.std.specs.Str.{chars}
use Rattle.rf_base_grammar.specs.Cuts.{span}
use Rattle.rf_lexer.specs.Classes.{test_of}
use Rattle.rf_lexer.proofs.classes.past.Given as goal

abbrev pub invariant-loop-c : goal.invariant-loop-c
invariant-loop-c l =
    record {
      utf8 : shadow (Utf8 l.rest);
      goes_on : (span (test_of l.class) (chars l.rest)).behind ≡ (span (test_of l.class) (chars l.text)).behind;
    }

abbrev pub decreases-loop-c : goal.decreases-loop-c
decreases-loop-c l = length (chars l.rest)
