-- Where the lines of a here string end.
use Rattle.std.specs.Prelude.{ℕ, ◌==◌, ◌&&◌, Bool, true, List, [], ◌∷◌}
use Rattle.std.specs.Str.{bytes_eq}

-- whether the text is at its end or goes on with an LF
abbrev pub feeds : List ℕ → Bool
feeds [] = true
feeds (c ∷ text) = c == 10

-- whether the line before the rest ends a here string with this terminator
abbrev pub ends_lines : List ℕ → List ℕ → List ℕ → Bool
ends_lines terminator line rest = bytes_eq terminator line && feeds rest
