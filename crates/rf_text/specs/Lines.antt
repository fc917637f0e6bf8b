-- Where lines end: a line end is an LF, which is the character 10, and in UTF-8 the byte 10.
use Rattle.std.specs.Prelude.{ℕ, ◌+◌, ◌==◌, ◌&&◌, ltb, not, Bool, List, [], ◌∷◌, Option, Some, None, if◌then◌else◌}
use Rattle.std.specs.List.{Contains}
use Rattle.std.specs.Str.{bytes_eq}

-- the characters hold an LF
abbrev pub HoldsLineEnd : List ℕ → Type 0
HoldsLineEnd text = Contains text 10

-- whether the byte is an ASCII character but LF
abbrev pub is_plain : ℕ → Bool
is_plain byte = ltb byte 128 && not (byte == 10)

-- the lines, with one more byte at the front of the first
abbrev pub on_first : ℕ → List (List ℕ) → List (List ℕ)
on_first byte [] = (byte ∷ []) ∷ []
on_first byte (line ∷ lines) = (byte ∷ line) ∷ lines

-- the lines of the bytes, cut at each LF: n LFs make n + 1 lines
unfoldable pub lines_of : List ℕ → List (List ℕ)
lines_of [] = [] ∷ []
lines_of (byte ∷ bytes) = if byte == 10 then [] ∷ lines_of bytes else on_first byte (lines_of bytes)

-- the first of these lines, numbered from n on, that differs or that only one of the two has
unfoldable pub line_apart : ℕ → List (List ℕ) → List (List ℕ) → Option ℕ
line_apart n [] [] = None
line_apart n (line ∷ lines) [] = Some n
line_apart n [] (other ∷ others) = Some n
line_apart n (line ∷ lines) (other ∷ others) =
    if bytes_eq line other then line_apart (n + 1) lines others else Some n

-- the number, from 1, of the first line that differs or that only one of the two has
unfoldable pub first_difference : List ℕ → List ℕ → Option ℕ
first_difference a b = line_apart 1 (lines_of a) (lines_of b)

-- the number of the line behind the byte, where n is that of its own
abbrev pub line_of_next : ℕ → ℕ → ℕ
line_of_next n byte = if byte == 10 then n + 1 else n
