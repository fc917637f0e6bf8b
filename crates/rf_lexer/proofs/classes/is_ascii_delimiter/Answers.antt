-- What the table tells of an ASCII character.
use Rattle.std.proofs.Common.{◌<◌, arith}
use Rattle.std.proofs.lemmas.Bool.Decides.{nat_tests}
use Rattle.rf_lexer.proofs.PlainMarks.{delimiter_mark}
use Rattle.rf_lexer.proofs.classes.is_ascii_delimiter.Goals as goal

pub returns-then-is_ascii : goal.returns-then-is_ascii
returns-then-is_ascii c =
    let low : c.args.c < 256 = grind (arith, nat_tests) in
    λ e. (delimiter_mark c.args.c low e).1
