-- The first line of a text.
use Rattle.std.specs.Prelude.{ℕ, ◌≡◌, ◌+◌, ◌<◌, Option, None, Some, List, ◌∷◌, ◌++◌, length}
use Rattle.std.specs.Borrow.{Bor}
use Rattle.std.specs.Str.{chars}
use Rattle.rf_base_document.specs.Document.{IsOneLine}

-- the text is its first line, a line end and what is behind it; none where it has one line
abbrev pub CutsLine : List ℕ → Option (Bor (List ℕ) × Bor (List ℕ)) → Type 0
CutsLine text None = IsOneLine (chars text)
CutsLine text (Some p) =
    IsOneLine (chars p.0.now) × (chars text ≡ chars p.0.now ++ 10 ∷ chars p.1.now)
    × (length p.0.now + length p.1.now < length text)
