-- What the table tells of a byte.
use Rattle.std.proofs.Common.{arith}
use Rattle.rf_lexer.proofs.PlainMarks.{delimiter_mark}
use Rattle.rf_lexer.proofs.classes.delimits.Goals as goal

pub returns : goal.returns
returns c = λ e. delimiter_mark c.args.byte (omega arith) e
