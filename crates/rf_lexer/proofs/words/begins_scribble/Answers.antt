-- The word is ASCII, so its bytes are its characters.
use Rattle.std.specs.Str.{chars}
use Rattle.rf_lexer.proofs.words.begins_scribble.Goals as goal

pub returns : goal.returns
unfolding chars
returns c = c.begins.ensures
