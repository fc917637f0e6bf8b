-- What is left of the word is looked for in the rest.
use Rattle.std.proofs.Common.{◌≡◌, length}
use denote.Text.{Utf8}
use denote.Shadow.{shadow}
use Rattle.std.specs.Str.{chars}
use Rattle.rf_base_grammar.specs.Reader.{strip}
use Rattle.rf_lexer.proofs.words.behind_word.Given as goal

abbrev pub invariant-loop-c : goal.invariant-loop-c
invariant-loop-c l =
    record {
      utf8 : shadow (Utf8 l.rest);
      left_utf8 : shadow (Utf8 l.left);
      so_far : strip (chars l.left) (chars l.rest) ≡ strip (chars l.word) (chars l.text);
    }

abbrev pub decreases-loop-c : goal.decreases-loop-c
decreases-loop-c l = length (chars l.left)
