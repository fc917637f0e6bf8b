-- Places in a text, told by the text behind them.
use Rattle.std.specs.Prelude.{ℕ, ◌≡◌, Option, None, Some, List, [], ◌∷◌}
use Rattle.std.specs.Borrow.{Bor}
use Rattle.std.specs.Str.{chars}

-- the first of the characters and the text behind it, or none where there is no character
abbrev pub IsFirst : List ℕ → Option (ℕ × Bor (List ℕ)) → Type 0
IsFirst text None = text ≡ []
IsFirst text (Some p) = text ≡ p.0 ∷ chars p.1.now
