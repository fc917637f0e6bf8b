-- Strings, byte strings and regular expressions (the Racket Reference, "Reading Strings", "Reading Regular
-- Expressions"), and here strings.
use Rattle.std.specs.Prelude.{ℕ, ◌≡◌, ◌≢◌, ◌==◌, ◌⊎◌, not, Bool, List, [], ◌∷◌, ◌++◌, map, codes}
use Rattle.std.specs.List.{AllByRecursion, concat}
use Rattle.rf_base_grammar.specs.Characters.{Each, IsOneOf, MadeOf}
use Rattle.rf_base_grammar.specs.Runs.{backslash}

-- the double quote
abbrev pub quote : ℕ
quote = 34

-- what may stand before the opening quote
abbrev pub string_heads : List (List ℕ)
string_heads = [] ∷ codes "#" ∷ codes "#rx" ∷ codes "#px" ∷ codes "#rx#" ∷ codes "#px#" ∷ []

-- one part of a string: a character that neither quotes nor ends it, or a backslash and any character
abbrev pub IsStringPart : List ℕ → Type 0
IsStringPart part =
    ((c : ℕ) × (part ≡ c ∷ []) × (c ≢ quote) × (c ≢ backslash)) ⊎ ((c : ℕ) × (part ≡ backslash ∷ c ∷ []))

-- a string: a head, and between two double quotes such parts
abbrev pub IsString : List ℕ → Type 0
IsString text =
    (head : List ℕ) × (body : List ℕ) × (text ≡ head ++ quote ∷ (body ++ quote ∷ [])) × IsOneOf string_heads head
    × MadeOf IsStringPart body

-- the character is no line end LF (10)
abbrev pub is_no_feed : ℕ → Bool
is_no_feed c = not (c == 10)

-- the character is no carriage return CR (13)
abbrev pub is_no_return : ℕ → Bool
is_no_return c = not (c == 13)

-- a line of a here string that doesn't end it
abbrev pub IsOtherLine : List ℕ → List ℕ → Type 0
IsOtherLine terminator line = Each is_no_feed line × (line ≢ terminator)

-- each of the lines and its line end
abbrev pub ended_lines : List (List ℕ) → List ℕ
ended_lines lines = concat (map (λ line. line ++ 10 ∷ []) lines)

-- a here string: #<<, the terminator, a line end, lines that aren't the terminator, and the terminator; it holds no CR
abbrev pub IsHereString : List ℕ → Type 0
IsHereString text =
    (terminator : List ℕ) × (lines : List (List ℕ))
    × (text ≡ codes "#<<" ++ (terminator ++ 10 ∷ (ended_lines lines ++ terminator))) × Each is_no_feed terminator
    × AllByRecursion (IsOtherLine terminator) lines × Each is_no_return text
