-- The characters that sources are made of, how many bytes they take, and words about texts, which are lists of them.
use Rattle.std.specs.Prelude.{ℕ, ◌≡◌, ◌==◌, ◌||◌, ◌⊎◌, Bool, true, List, [], ◌∷◌, ◌++◌, sum_by}
use Rattle.std.specs.List.{AllByRecursion, list_any, concat}
use Rattle.std.specs.Char.{is_whitespace, len_utf8}

-- each character of the text passes the test
abbrev pub Each : (ℕ → Bool) → List ℕ → Type 0
Each test text = AllByRecursion (λ c. test c ≡ true) text

-- white space: the characters that have Unicode's property White_Space
unfoldable pub is_white : ℕ → Bool
is_white c = is_whitespace c

-- the delimiters besides white space: ( ) [ ] { } " , ' the back quote and the semicolon
abbrev pub punctuation : List ℕ
punctuation = 40 ∷ 41 ∷ 91 ∷ 93 ∷ 123 ∷ 125 ∷ 34 ∷ 44 ∷ 39 ∷ 96 ∷ 59 ∷ []

-- whether the character is a delimiter: white space or one of these (the Racket Reference, "Delimiters and Dispatch")
unfoldable pub is_delimiter : ℕ → Bool
is_delimiter c = is_white c || list_any (λ mark. c == mark) punctuation

-- how many bytes the characters take in UTF-8
abbrev pub byte_len : List ℕ → ℕ
byte_len text = sum_by len_utf8 text

-- the text is one of these
abbrev pub IsOneOf : List (List ℕ) → List ℕ → Type 0
IsOneOf [] text = ⊥
IsOneOf (word ∷ words) text = (text ≡ word) ⊎ IsOneOf words text

-- the text begins with the word
abbrev pub BeginsWith : List ℕ → List ℕ → Type 0
BeginsWith word text = (after : List ℕ) × (text ≡ word ++ after)

-- the text ends with the word
abbrev pub EndsWith : List ℕ → List ℕ → Type 0
EndsWith word text = (before : List ℕ) × (text ≡ before ++ word)

-- the text is parts of this form, one after another
abbrev pub MadeOf : (List ℕ → Type 0) → List ℕ → Type 0
MadeOf IsPart text = (parts : List (List ℕ)) × AllByRecursion IsPart parts × (text ≡ concat parts)
