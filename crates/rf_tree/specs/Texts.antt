-- The items of a text, as they were read or settled.
use Rattle.std.specs.Prelude.{ℕ, ◌≡◌, ◌⊎◌, List, map}
use Rattle.rf_base_grammar.specs.Token.{Token, item_of, normal}
use Rattle.rf_base_grammar.specs.Itemised.{Itemised}
use Rattle.rf_base_grammar.specs.declared.items.Item.{Item}

-- the text is these tokens with gaps around them, as they were read, or settled by some greatest number of blank lines
abbrev pub AreTokensOf : List ℕ → List Token → Type 0
AreTokensOf text ts =
    (read : List Token) × Itemised text read × ((ts ≡ read) ⊎ ((most : ℕ) × (ts ≡ normal most read)))

-- the items are those of the text, read or settled
abbrev pub AreItemsOf : List ℕ → List Item → Type 0
AreItemsOf text items = (ts : List Token) × AreTokensOf text ts × (items ≡ map item_of ts)
