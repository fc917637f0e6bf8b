-- The text ends as it ends from the place on, or as the last character read says.
use Rattle.std.proofs.Common.{◌≡◌, length, if◌then◌else◌}
use denote.Text.{Utf8}
use denote.Shadow.{shadow}
use Rattle.std.specs.Str.{chars}
use Rattle.rf_base_grammar.specs.Reader.{is_nothing}
use Rattle.rf_base_grammar.specs.Reader as Reader
use Rattle.rf_lexer.proofs.words.ends_in.Given as goal

abbrev pub invariant-loop-d : goal.invariant-loop-d
invariant-loop-d l =
    record {
      utf8 : shadow (Utf8 l.rest);
      so_far : (if is_nothing (chars l.rest) then l.last else Reader.ends_in l.c (chars l.rest)) ≡ Reader.ends_in l.c (chars l.text);
    }

abbrev pub decreases-loop-d : goal.decreases-loop-d
decreases-loop-d l = length (chars l.rest)
