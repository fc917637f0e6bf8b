-- The items so far lead to the text that is left.
use Rattle.std.proofs.Common.{◌-◌, ◌≤◌, length, List}
use denote.Text.{Utf8}
use denote.Shadow.{shadow}
use Rattle.std.specs.Str.{chars}
use Rattle.rf_base_grammar.specs.declared.kinds.Kind.{Kind}
use Rattle.rf_lexer.specs.Next.{AreBefore}
use Rattle.rf_lexer.proofs.NextItems.{Reaches}
use Rattle.rf_lexer.proofs.scan.accept_behind.Given as goal

abbrev pub invariant-loop-kind : goal.invariant-loop-kind
invariant-loop-kind l =
    record {
      utf8 : shadow (Utf8 l.text);
      within : length l.text ≤ l.len;
      reached : (kinds : List Kind) → AreBefore kinds l.fn.before → Reaches kinds (l.len - length l.rest) l.rest l.text l.before;
    }

abbrev pub decreases-loop-kind : goal.decreases-loop-kind
decreases-loop-kind l = length (chars l.text)
