-- The dot's byte is its character.
use Rattle.std.specs.Str.{chars}
use Rattle.rf_lexer.proofs.words.is_dot.Goals as goal

pub returns : goal.returns
unfolding chars
returns c = c.is_word.ensures
