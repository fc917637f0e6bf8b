-- Nothing stands before the rest where both take as many bytes.
use Rattle.rf_lexer.proofs.Places.{nothing_in_front}
use Rattle.rf_lexer.proofs.cursor.is_whole.Goals as goal

pub returns : goal.returns
returns c = λ front e. nothing_in_front c.args.text.now c.args.rest.now front c.utf8.text c.utf8.rest e
