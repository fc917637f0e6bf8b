-- Sources, which are bytes, and their items.
use Rattle.std.specs.Prelude.{ℕ, List}
use Rattle.std.specs.Str.{chars, IsUtf8}
use Rattle.rf_base_grammar.specs.Token.{Token}
use Rattle.rf_base_grammar.specs.Itemised.{Itemised}

-- the bytes of the source are UTF-8 and are these items with gaps around them
abbrev pub HasItems : List ℕ → List Token → Type 0
HasItems source ts = IsUtf8 source × Itemised (chars source) ts
