-- The words are ASCII, so their bytes are their characters.
use Rattle.std.proofs.Common.{[], ◌∷◌}
use Rattle.std.specs.Str.{chars, bytes_eq}
use Rattle.rf_tree.proofs.Beginning.{first_decides, second_decides}
use Rattle.rf_ways.proofs.quoting.quotes.Goals as goal

pub returns-then-is_word : goal.returns-then-is_word
unfolding chars
returns-then-is_word c =
    first_decides (bytes_eq (39 ∷ []) (chars c.args.prefix.now)) (bytes_eq (96 ∷ []) (chars c.args.prefix.now)) c.is_word.result c.is_word.ensures c.if-is_word.true

pub returns-else-is_word : goal.returns-else-is_word
unfolding chars
returns-else-is_word c =
    second_decides (bytes_eq (39 ∷ []) (chars c.args.prefix.now)) (bytes_eq (96 ∷ []) (chars c.args.prefix.now)) c.is_word.result c.is_word-else-is_word.result c.is_word.ensures c.if-is_word.false c.is_word-else-is_word.ensures
