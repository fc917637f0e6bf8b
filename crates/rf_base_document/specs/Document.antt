-- Documents: trees that say which texts stand on a page and where lines may break.
-- The language is that of "A Pretty Expressive Printer" (OOPSLA 2023); `Hard`, `Reset`, charges and given lengths are
-- added here.
use Rattle.std.specs.Prelude.{ℕ, ◌+◌, ◌*◌, ◌≤◌, List, length, ⊤}
use Rattle.std.specs.List.{Contains}
use Rattle.rf_base_document.specs.declared.directions.Dir.{Dir}

-- a document; a text is a list of characters, each a Unicode scalar value
pub data Doc : Type 0 where
  -- the characters s, which hold no LF and take up len columns
  Text : (s : List ℕ) (len : ℕ) → Doc
  -- a line break, or one space where flat
  Newline : Doc
  -- a line break, which has no layout where flat
  Hard : Doc
  -- a and then b, which begins where a ends
  Concat : (a b : Doc) → Doc
  -- a with n more columns of indentation
  Nest : (n : ℕ) (a : Doc) → Doc
  -- a with the column that it begins at as indentation
  Align : (a : Doc) → Doc
  -- a with no indentation
  Reset : (a : Doc) → Doc
  -- a with each of its newlines flat
  Flatten : (a : Doc) → Doc
  -- a or b, whichever a resolution takes
  Choice : (a b : Doc) → Doc
  -- a choice of which one side is left: the side dir, which is a
  Only : (dir : Dir) (a : Doc) → Doc
  -- a for an added cost of k
  Charge : (k : ℕ) (a : Doc) → Doc

-- the text whose length is its number of characters
abbrev pub plain_text : List ℕ → Doc
plain_text s = Text s (length s)

-- the characters hold no LF
abbrev pub IsOneLine : List ℕ → Type 0
IsOneLine s = Contains s 10 → ⊥

-- a text's characters stand on one line and take up at most two columns each
abbrev pub KeepsTextLimits : List ℕ → ℕ → Type 0
KeepsTextLimits s len = IsOneLine s × (len ≤ 2 * length s)

-- each text keeps its limits, and each nesting and each charge is at most 1,000
unfoldable pub IsDocument : Doc → Type 0
IsDocument (Text s len) = KeepsTextLimits s len
IsDocument Newline = ⊤
IsDocument Hard = ⊤
IsDocument (Concat a b) = IsDocument a × IsDocument b
IsDocument (Nest n a) = (n ≤ 1000) × IsDocument a
IsDocument (Align a) = IsDocument a
IsDocument (Reset a) = IsDocument a
IsDocument (Flatten a) = IsDocument a
IsDocument (Choice a b) = IsDocument a × IsDocument b
IsDocument (Only dir a) = IsDocument a
IsDocument (Charge k a) = (k ≤ 1000) × IsDocument a

-- how many columns a document can add: the lengths of its texts, one a newline, and each nesting
unfoldable pub width_of : Doc → ℕ
width_of (Text s len) = len
width_of Newline = 1
width_of Hard = 0
width_of (Concat a b) = width_of a + width_of b
width_of (Nest n a) = n + width_of a
width_of (Align a) = width_of a
width_of (Reset a) = width_of a
width_of (Flatten a) = width_of a
width_of (Choice a b) = width_of a + width_of b
width_of (Only dir a) = width_of a
width_of (Charge k a) = width_of a
