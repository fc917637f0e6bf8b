-- The layout of a resolution: its pieces in order, and the column after the last.
use Rattle.std.specs.Prelude.{◌≡◌, ℕ, ◌+◌, ◌≤◌, Bool, true, false, List, [], ◌∷◌, ◌++◌, replicate, Some, None, Option, ⊤}
use Rattle.rf_base_document.specs.Document.{Doc, Text, Newline, Hard, Concat, Nest, Align, Reset, Flatten, Choice, Only, Charge}

-- one piece of a layout
pub data Piece : Type 0 where
  -- the characters s, which begin at this column and take up len columns
  Word : (column : ℕ) (s : List ℕ) (len : ℕ) → Piece
  -- a line feed and this many spaces
  Break : (indentation : ℕ) → Piece
  -- nothing, for a cost of k
  Fee : (k : ℕ) → Piece

-- a layout: its pieces, and the column that it ends at
pub record Laid : Type 0 where
  pub pieces : List Piece
  pub last : ℕ

-- the layout of these pieces that ends at this column
abbrev pub laid : List Piece → ℕ → Laid
laid pieces last = record { pieces = pieces; last = last }

-- the first layout and then the second, where there is a second
abbrev pub joined : Laid → Option Laid → Option Laid
joined first None = None
joined first (Some second) = Some (laid (first.pieces ++ second.pieces) second.last)

-- a layout and then what follows at its last column, where there are both
abbrev pub followed_by : Option Laid → (ℕ → Option Laid) → Option Laid
followed_by None rest = None
followed_by (Some first) rest = joined first (rest first.last)

-- a newline at this column and indentation: a break, or where flat one space
abbrev pub newline_laid : ℕ → ℕ → Bool → Laid
newline_laid column indentation true = laid (Word column (32 ∷ []) 1 ∷ []) (column + 1)
newline_laid column indentation false = laid (Break indentation ∷ []) indentation

-- a hard newline at this indentation: a break, or where flat none
abbrev pub hard_laid : ℕ → Bool → Option Laid
hard_laid indentation true = None
hard_laid indentation false = Some (laid (Break indentation ∷ []) indentation)

-- the layout of a resolution at this column and indentation, flat or not, if it has one; a choice is no resolution
unfoldable pub render : Doc → ℕ → ℕ → Bool → Option Laid
render (Text s len) column indentation flat = Some (laid (Word column s len ∷ []) (column + len))
render Newline column indentation flat = Some (newline_laid column indentation flat)
render Hard column indentation flat = hard_laid indentation flat
render (Concat a b) column indentation flat =
    followed_by (render a column indentation flat) (λ last. render b last indentation flat)
render (Nest n a) column indentation flat = render a column (indentation + n) flat
render (Align a) column indentation flat = render a column column flat
render (Reset a) column indentation flat = render a column 0 flat
render (Flatten a) column indentation flat = render a column indentation true
render (Choice a b) column indentation flat = None
render (Only dir a) column indentation flat = None
render (Charge k a) column indentation flat = joined (laid (Fee k ∷ []) column) (render a column indentation flat)

-- the characters of a piece: a break is one LF and its spaces, a fee is nothing
abbrev pub piece_text : Piece → List ℕ
piece_text (Word column s len) = s
piece_text (Break indentation) = 10 ∷ replicate indentation 32
piece_text (Fee k) = []

-- the characters of a layout
unfoldable pub layout : List Piece → List ℕ
layout [] = []
layout (piece ∷ pieces) = piece_text piece ++ layout pieces

-- the piece ends at a column of at most w
abbrev pub EndsWithin : ℕ → Piece → Type 0
EndsWithin w (Word column s len) = column + len ≤ w
EndsWithin w (Break indentation) = indentation ≤ w
EndsWithin w (Fee k) = ⊤

-- each of the pieces ends at a column of at most w
unfoldable pub EachEndsWithin : ℕ → List Piece → Type 0
EachEndsWithin w [] = ⊤
EachEndsWithin w (piece ∷ pieces) = EndsWithin w piece × EachEndsWithin w pieces

-- the pieces, of which the first begins at this column, stay within w columns
abbrev pub Within : ℕ → List Piece → ℕ → Type 0
Within column pieces w = (column ≤ w) × EachEndsWithin w pieces

-- the column that a piece ends at, where what is before it ends at this column
abbrev pub piece_end : ℕ → Piece → ℕ
piece_end column (Word at s len) = at + len
piece_end column (Break indentation) = indentation
piece_end column (Fee k) = column

-- the column that the pieces end at, where what is before them ends at this column
unfoldable pub column_after : ℕ → List Piece → ℕ
column_after column [] = column
column_after column (piece ∷ pieces) = column_after (piece_end column piece) pieces

-- each word begins where its line has come to, the first line at this column
unfoldable pub WordsRun : ℕ → List Piece → Type 0
WordsRun column [] = ⊤
WordsRun column (Word at s len ∷ pieces) = (at ≡ column) × WordsRun (column + len) pieces
WordsRun column (Break indentation ∷ pieces) = WordsRun indentation pieces
WordsRun column (Fee k ∷ pieces) = WordsRun column pieces
