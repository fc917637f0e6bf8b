-- What `chars` yields spells the text, so it is the text's characters; where all bytes are ASCII, so are these.
use Rattle.std.proofs.Common.{List, length, ap, refl, sym, rules}
use Rattle.std.proofs.lemmas.Str.{chars-IsAscii, chars_from_encodes}
use Rattle.rf_doc.proofs.characters.char_count.Goals as goal

pub returns-then-is_ascii-clause-count : goal.returns-then-is_ascii-clause-count
returns-then-is_ascii-clause-count c = ap (λ (l : List _). length l) (sym (chars-IsAscii c.args.s.now (c.if-is_ascii.ensures refl)))

pub returns-clause-count : goal.returns-clause-count
returns-clause-count c = search (rules, chars_from_encodes)
