-- Runs, and the items that are runs: symbols, numbers, keywords, characters and the dot (the Racket Reference, "Reading
-- Symbols", "Reading Numbers", "Reading Characters").
use Rattle.std.specs.Prelude.{ℕ, ◌≡◌, ◌≢◌, ◌≤◌, ◌==◌, ◌⊎◌, not, false, List, [], ◌∷◌, ◌++◌, length, codes}
use Rattle.std.specs.Char.{is_ascii_digit}
use Rattle.rf_base_grammar.specs.Characters.{Each, is_delimiter, IsOneOf, BeginsWith, MadeOf}

-- the backslash and the bar, which quote, and the hash sign
abbrev pub backslash : ℕ
backslash = 92

abbrev pub bar : ℕ
bar = 124

abbrev pub hash : ℕ
hash = 35

-- one part of a run: a character that is no delimiter and doesn't quote; a backslash and any character; or two bars and
-- what they enclose, which holds no bar
abbrev pub IsRunPart : List ℕ → Type 0
IsRunPart part =
    ((c : ℕ) × (part ≡ c ∷ []) × (is_delimiter c ≡ false) × (c ≢ backslash) × (c ≢ bar))
    ⊎ ((c : ℕ) × (part ≡ backslash ∷ c ∷ []))
    ⊎ ((inner : List ℕ) × (part ≡ bar ∷ (inner ++ bar ∷ [])) × Each (λ c. not (c == bar)) inner)

-- a run: one part or more
abbrev pub IsRun : List ℕ → Type 0
IsRun text = (text ≢ []) × MadeOf IsRunPart text

-- a number as hash words hold it: 1 to 8 decimal digits
abbrev pub IsShortNumber : List ℕ → Type 0
IsShortNumber digits = Each is_ascii_digit digits × (1 ≤ length digits) × (length digits ≤ 8)

-- the booleans
abbrev pub booleans : List (List ℕ)
booleans = codes "#t" ∷ codes "#T" ∷ codes "#true" ∷ codes "#f" ∷ codes "#F" ∷ codes "#false" ∷ []

-- the beginnings of numbers with a radix or an exactness, of keywords, and of symbols such as #%app
abbrev pub atom_beginnings : List (List ℕ)
atom_beginnings =
    codes "#d" ∷ codes "#b" ∷ codes "#o" ∷ codes "#x" ∷ codes "#e" ∷ codes "#i"
    ∷ codes "#D" ∷ codes "#B" ∷ codes "#O" ∷ codes "#X" ∷ codes "#E" ∷ codes "#I"
    ∷ codes "#:" ∷ codes "#%" ∷ []

-- the text begins with one of these
abbrev pub BeginsWithOneOf : List (List ℕ) → List ℕ → Type 0
BeginsWithOneOf [] text = ⊥
BeginsWithOneOf (word ∷ words) text = BeginsWith word text ⊎ BeginsWithOneOf words text

-- a reference to a graph's part, as #1#
abbrev pub IsGraphReference : List ℕ → Type 0
IsGraphReference text = (digits : List ℕ) × (text ≡ hash ∷ (digits ++ hash ∷ [])) × IsShortNumber digits

-- a run that is an atom: it begins with no hash sign and isn't the dot, or is one of the hash words above
abbrev pub IsAtomRun : List ℕ → Type 0
IsAtomRun text =
    ((BeginsWith (codes "#") text → ⊥) × (text ≢ codes "."))
    ⊎ IsOneOf booleans text
    ⊎ BeginsWithOneOf atom_beginnings text
    ⊎ IsGraphReference text

-- a character: #\, one character of any kind, and characters that are no delimiters; where it ends is a rule of this
-- formatter's own
abbrev pub IsCharacter : List ℕ → Type 0
IsCharacter text =
    (c : ℕ) × (more : List ℕ) × (text ≡ hash ∷ backslash ∷ c ∷ more) × Each (λ d. not (is_delimiter d)) more

-- an atom
abbrev pub IsAtom : List ℕ → Type 0
IsAtom text = (IsRun text × IsAtomRun text) ⊎ IsCharacter text
