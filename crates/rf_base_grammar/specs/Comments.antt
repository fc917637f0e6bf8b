-- Comments (the Racket Reference, "Reading Comments").
use Rattle.std.specs.Prelude.{ℕ, ◌≡◌, ◌==◌, ◌⊎◌, not, Bool, List, [], ◌∷◌, ◌++◌, codes}
use Rattle.std.specs.List.{list_any}
use Rattle.rf_base_grammar.specs.Characters.{Each, BeginsWith, EndsWith, IsOneOf}

-- the text stands in a block comment, and behind the mark that ends this comment stands the rest. The mark itself; a
-- comment that stands inside, and what is behind it; or a character that begins no mark, and what is behind it
pub data ClosesTo : List ℕ → List ℕ → Type 0 where
  Mark : (text rest : List ℕ) → text ≡ codes "|#" ++ rest → ClosesTo text rest
  Nested : (text inner behind rest : List ℕ) → text ≡ codes "#|" ++ inner → ClosesTo inner behind →
      ClosesTo behind rest → ClosesTo text rest
  Passed : (c : ℕ) (text after rest : List ℕ) → text ≡ c ∷ after → (BeginsWith (codes "#|") text → ⊥) →
      (BeginsWith (codes "|#") text → ⊥) → ClosesTo after rest → ClosesTo text rest

-- a block comment: it closes just at its end
abbrev pub IsBlock : List ℕ → Type 0
IsBlock text = (inner : List ℕ) × (text ≡ codes "#|" ++ inner) × ClosesTo inner []

-- what ends a line in Racket's reader or in an editor: LF, CR, U+0085, U+2028 and U+2029
abbrev pub breaks_line : ℕ → Bool
breaks_line c = list_any (λ mark. c == mark) (10 ∷ 13 ∷ 0x85 ∷ 0x2028 ∷ 0x2029 ∷ [])

-- characters of one line
abbrev pub IsOnOneLine : List ℕ → Type 0
IsOnOneLine text = Each (λ c. not (breaks_line c)) text

-- the two ways in which a line comment with a hash sign begins
abbrev pub bang_heads : List (List ℕ)
bang_heads = codes "#!/" ∷ codes "#! " ∷ []

-- a line comment: a semicolon and characters of one line; or #! and a slash or a space, and characters of one line, of
-- which the last is no backslash
abbrev pub IsLineComment : List ℕ → Type 0
IsLineComment text =
    ((body : List ℕ) × (text ≡ codes ";" ++ body) × IsOnOneLine body)
    ⊎ ((head : List ℕ) × (body : List ℕ) × (text ≡ head ++ body) × IsOneOf bang_heads head × IsOnOneLine body
    × (EndsWith (codes "\\") body → ⊥))

-- the text is at its end or goes on with a line end, LF or CR LF
abbrev pub EndsLine : List ℕ → Type 0
EndsLine text = (text ≡ []) ⊎ BeginsWith (10 ∷ []) text ⊎ BeginsWith (13 ∷ 10 ∷ []) text
