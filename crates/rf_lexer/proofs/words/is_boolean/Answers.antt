-- The words are ASCII, so their bytes are their characters.
use Rattle.std.specs.Str.{chars}
use Rattle.rf_lexer.proofs.words.is_boolean.Goals as goal

pub returns : goal.returns
unfolding chars
returns c = c.is_among.ensures
