-- The bytes before the rest are those of the characters before it.
use Rattle.std.proofs.Common.{arith}
use Rattle.rf_lexer.proofs.Places.{parts_len}
use Rattle.rf_lexer.proofs.cursor.len_before.Goals as goal

pub overflow_sub-result : goal.overflow_sub-result
overflow_sub-result c =
    omega (arith, parts_len c.args.text.now c.args.rest.now c.requires.0 c.utf8.text c.utf8.rest c.requires.1)

pub returns : goal.returns
returns c = λ front e. omega (arith, parts_len c.args.text.now c.args.rest.now front c.utf8.text c.utf8.rest e)
