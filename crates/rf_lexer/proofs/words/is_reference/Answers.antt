-- The end is ASCII, so its bytes are its characters.
use Rattle.std.specs.Str.{chars}
use Rattle.rf_lexer.proofs.words.is_reference.Goals as goal

pub returns : goal.returns
unfolding chars
returns c = c.is_number_word.ensures
