-- What the table tells of a byte.
use Rattle.std.proofs.Common.{arith}
use Rattle.rf_lexer.proofs.PlainMarks.{plain_mark}
use Rattle.rf_lexer.proofs.classes.Class.holds_byte.Goals as goal

pub returns-in-Plain : goal.returns-in-Plain
returns-in-Plain c = λ e. rw c.in-Plain.is (plain_mark c.args.byte (omega arith) e)
