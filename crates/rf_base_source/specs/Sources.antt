-- Which sources have a tree, and which are refused, why, and at which byte.
use Rattle.std.specs.Prelude.{ℕ, List}
use Rattle.std.specs.Str.{chars, IsUtf8, IsValidUpTo}
use Rattle.rf_base_grammar.specs.Token.{Token}
use Rattle.rf_base_grammar.specs.Sources.{HasItems}
use Rattle.rf_base_grammar.specs.Unreadable.{LexRefused}
use Rattle.rf_base_tree.specs.Trees.{Forest}
use Rattle.rf_base_tree.specs.Formed.{Treed}
use Rattle.rf_base_tree.specs.Refusals.{TreeRefused}
use Rattle.rf_base_source.specs.declared.refusals.SourceKind.{SourceKind}
use Rattle.rf_base_source.specs.declared.refusals.SourceKind.TheVariants.{NotUtf8, Lex, Tree}

-- the source has these items, and they are those of these trees, in order
abbrev pub HasTree : List ℕ → List Token → Forest → Type 0
HasTree source ts trees = HasItems source ts × Treed ts trees

-- the source is refused for this reason at this byte
abbrev pub Refused : List ℕ → SourceKind → ℕ → Type 0
-- its bytes are UTF-8 up to the offset, and no further
Refused source NotUtf8 offset = IsValidUpTo source offset
-- it is a text that the lexer refuses
Refused source (Lex kind) offset = IsUtf8 source × LexRefused (chars source) kind offset
-- it has items, and they make no tree
Refused source (Tree kind) offset = (ts : List Token) × HasItems source ts × TreeRefused ts kind offset
