-- How the program tells where a string ends.
use Rattle.std.specs.Prelude.{ℕ, ◌≡◌, Bool, Option, Some, List, [], ◌∷◌}
use Rattle.std.specs.Borrow.{Bor}
use Rattle.rf_base_grammar.specs.Cuts.{string_cut, cut, also}
use Rattle.rf_lexer.specs.Places.{IsBehind}

-- the character ends a string that goes on so
abbrev pub StringEnds : Bool → ℕ → Type 0
StringEnds escaped c = (text : List ℕ) → string_cut escaped (c ∷ text) ≡ Some (cut [] text)

-- a string that goes on so has the character, and goes on behind it as the next says
abbrev pub StringGoesOn : Bool → ℕ → Bool → Type 0
StringGoesOn escaped c next = (text : List ℕ) → string_cut escaped (c ∷ text) ≡ also c (string_cut next text)

-- what is behind a string that goes on so from the rest on is behind it from the text on
abbrev pub StringIsBehind : Bool → List ℕ → List ℕ → Type 0
StringIsBehind escaped text rest =
    (r : Option (Bor (List ℕ))) → IsBehind (string_cut escaped rest) r → IsBehind (string_cut escaped text) r
