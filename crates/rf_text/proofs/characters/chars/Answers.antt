-- An ASCII text has a character for each byte. Of any text, what `chars` yields spells it, so it is its characters.
use Rattle.std.proofs.Common.{rules}
use Rattle.std.proofs.lemmas.Str.{chars-IsAscii, chars_from_encodes}
use Rattle.rf_text.proofs.characters.chars.Goals as goal

pub returns-then-is_ascii : goal.returns-then-is_ascii
returns-then-is_ascii c = search (rules, chars-IsAscii)

pub returns : goal.returns
returns c = search (rules, chars_from_encodes)
