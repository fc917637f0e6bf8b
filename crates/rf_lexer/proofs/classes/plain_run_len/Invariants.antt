-- The bytes before the place are ASCII characters that stand for themselves.
use Rattle.rf_lexer.specs.Classes.{is_plain, BeginsWithMarks}
use Rattle.rf_lexer.proofs.classes.plain_run_len.Given as goal

abbrev pub invariant-loop-i : goal.invariant-loop-i
invariant-loop-i l = BeginsWithMarks is_plain l.text l.i
