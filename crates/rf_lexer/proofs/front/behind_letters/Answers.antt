-- The word is ASCII, so its bytes are its characters.
use Rattle.std.specs.Str.{chars}
use Rattle.rf_lexer.proofs.front.behind_letters.Goals as goal

pub returns : goal.returns
unfolding chars
returns c = c.behind_word.ensures
