-- What it means that no line of a text has a trailing space.
use Rattle.std.specs.Prelude.{ℕ, ◌≡◌, ◌+◌, ◌<◌, ◌≤◌, ◌⊎◌, List, [], ◌∷◌, ◌++◌}
use Rattle.rf_base_grammar.specs.Characters.{byte_len}
use Rattle.rf_base_grammar.specs.Comments.{EndsLine}
use Rattle.rf_base_grammar.specs.Token.{Token, normal}
use Rattle.rf_base_grammar.specs.Itemised.{Itemised}
use Rattle.rf_base_grammar.specs.Woven.{Woven}

-- at this offset stands a byte of one of these items
abbrev pub IsInItem : List Token → ℕ → Type 0
IsInItem [] offset = ⊥
IsInItem (t ∷ ts) offset = ((t.start ≤ offset) × (offset < t.start + byte_len t.spelling)) ⊎ IsInItem ts offset

-- where a space ends a line of the text, it stands in an item of the text
abbrev pub NoTrailingSpace : List ℕ → Type 0
NoTrailingSpace text =
    (ts : List Token) (before behind : List ℕ) →
    Itemised text ts → text ≡ before ++ 32 ∷ behind → EndsLine behind → IsInItem ts (byte_len before)

-- a text that is woven of the items of a source, as a layout keeps them, has no trailing space outside of an item
abbrev pub WovenHasNoTrailingSpace : Type 0
WovenHasNoTrailingSpace =
    (source text : List ℕ) (ts : List Token) (max : ℕ) →
    Itemised source ts → Woven (normal max ts) text → NoTrailingSpace text
