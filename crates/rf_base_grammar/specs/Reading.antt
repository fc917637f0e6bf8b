-- What it means that a woven text reads back.
use Rattle.std.specs.Prelude.{ℕ, ◌≡◌, List, map}
use Rattle.rf_base_grammar.specs.Token.{Token, unplaced, normal}
use Rattle.rf_base_grammar.specs.Itemised.{Itemised}
use Rattle.rf_base_grammar.specs.Woven.{Woven}

-- a text that is woven of the items of a source, as a layout keeps them, has these items
abbrev pub WovenReadsBack : Type 0
WovenReadsBack =
    (source text : List ℕ) (ts : List Token) (max : ℕ) →
    Itemised source ts → Woven (normal max ts) text →
    (back : List Token) × Itemised text back × (map unplaced back ≡ map unplaced (normal max ts))
