-- The bytes before the place are ASCII characters of the class.
use Rattle.rf_lexer.specs.Classes.{test_of, BeginsWithMarks}
use Rattle.rf_lexer.proofs.classes.ascii_len.Given as goal

abbrev pub invariant-loop-i : goal.invariant-loop-i
invariant-loop-i l = BeginsWithMarks (test_of l.class) l.text l.i
