-- The signature of a document: the strands that each of its texts is drawn of, whichever lines it breaks.
use Rattle.std.specs.Prelude.{ℕ, ◌≡◌, ◌+◌, ◌⊎◌, Bool, true, false, List, [], ◌∷◌, ◌++◌, replicate, ⊤}
use Rattle.rf_base_document.specs.Document.{Doc, Text, Newline, Hard, Concat, Nest, Align, Reset, Flatten, Choice, Only, Charge}

-- what a stretch of a text may be
pub data Strand : Type 0 where
  -- these characters
  Exact : (s : List ℕ) → Strand
  -- a gap that may be empty
  Tight : Strand
  -- a gap of one space, or a line end and any number of spaces
  Loose : Strand
  -- a gap of a line end and any number of spaces
  Firm : Strand

-- one space
abbrev pub one_space : List ℕ
one_space = 32 ∷ []

-- a line end and this many spaces
abbrev pub line_break : ℕ → List ℕ
line_break indentation = 10 ∷ replicate indentation 32

-- the text is a line end and any number of spaces
abbrev pub IsBreak : List ℕ → Type 0
IsBreak text = (indentation : ℕ) × (text ≡ line_break indentation)

-- the text is this strand
abbrev pub IsDrawn : Strand → List ℕ → Type 0
IsDrawn (Exact s) text = text ≡ s
IsDrawn Tight text = (text ≡ []) ⊎ ((text ≡ one_space) ⊎ IsBreak text)
IsDrawn Loose text = (text ≡ one_space) ⊎ IsBreak text
IsDrawn Firm text = IsBreak text

-- the text is drawn of these strands, in order
unfoldable pub Drawn : List Strand → List ℕ → Type 0
Drawn [] text = text ≡ []
Drawn (strand ∷ strands) text =
    (front : List ℕ) × (rest : List ℕ) × (text ≡ front ++ rest) × IsDrawn strand front × Drawn strands rest

-- the text of a newline at this indentation, flat or not
abbrev pub newline_text : ℕ → Bool → List ℕ
newline_text indentation true = one_space
newline_text indentation false = line_break indentation

-- a hard newline at this indentation is drawn of these strands, if it isn't flat
abbrev pub HardSigned : ℕ → Bool → List Strand → Type 0
HardSigned indentation true strands = ⊤
HardSigned indentation false strands = Drawn strands (line_break indentation)

-- at this indentation, flat or not, the document has these strands: each text is drawn of them, parts share them out
-- in order, and both sides of a choice have them all
unfoldable pub Signed : Doc → ℕ → Bool → List Strand → Type 0
Signed (Text s len) indentation flat strands = Drawn strands s
Signed Newline indentation flat strands = Drawn strands (newline_text indentation flat)
Signed Hard indentation flat strands = HardSigned indentation flat strands
Signed (Concat a b) indentation flat strands =
    (front : List Strand) × (rest : List Strand) × (strands ≡ front ++ rest) × Signed a indentation flat front
    × Signed b indentation flat rest
Signed (Nest n a) indentation flat strands = Signed a (indentation + n) flat strands
Signed (Align a) indentation flat strands = (column : ℕ) → Signed a column flat strands
Signed (Reset a) indentation flat strands = Signed a 0 flat strands
Signed (Flatten a) indentation flat strands = Signed a indentation true strands
Signed (Choice a b) indentation flat strands = Signed a indentation flat strands × Signed b indentation flat strands
Signed (Only dir a) indentation flat strands = Signed a indentation flat strands
Signed (Charge k a) indentation flat strands = Signed a indentation flat strands
