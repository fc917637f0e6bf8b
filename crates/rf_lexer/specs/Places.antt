-- Places in a text, as the program tells them: by the text behind them.
use Rattle.std.specs.Prelude.{ℕ, ◌≡◌, Option, None, Some, List, ⊤}
use Rattle.std.specs.Borrow.{Bor}
use Rattle.std.specs.Str.{chars}
use Rattle.rf_base_grammar.specs.Cuts.{Cut}

-- the text is what is behind the cut, or there is none where there is no cut
abbrev pub IsBehind : Option Cut → Option (Bor (List ℕ)) → Type 0
IsBehind None None = ⊤
IsBehind (Some k) (Some rest) = k.behind ≡ chars rest.now
IsBehind _ _ = ⊥

-- the two texts are those of the cut
abbrev pub AreCut : Cut → Bor (List ℕ) × Bor (List ℕ) → Type 0
AreCut k parts = (chars parts.0.now ≡ k.front) × (chars parts.1.now ≡ k.behind)

-- the text is the characters that were asked for, or there is none where there are none
abbrev pub IsStripped : Option (List ℕ) → Option (Bor (List ℕ)) → Type 0
IsStripped None None = ⊤
IsStripped (Some text) (Some rest) = chars rest.now ≡ text
IsStripped _ _ = ⊥
