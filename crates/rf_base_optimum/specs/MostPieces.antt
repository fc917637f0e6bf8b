-- How long a resolution's layout may be.
use Rattle.std.specs.Prelude.{ℕ, suc, ◌+◌, max}
use Rattle.rf_base_document.specs.Document.{Doc, Text, Newline, Hard, Concat, Nest, Align, Reset, Flatten, Choice, Only, Charge}

-- the most texts, newlines and charges that a resolution of the document has, and so the most pieces that a layout has
unfoldable pub most_pieces : Doc → ℕ
most_pieces (Text s len) = 1
most_pieces Newline = 1
most_pieces Hard = 1
most_pieces (Concat a b) = most_pieces a + most_pieces b
most_pieces (Nest n a) = most_pieces a
most_pieces (Align a) = most_pieces a
most_pieces (Reset a) = most_pieces a
most_pieces (Flatten a) = most_pieces a
most_pieces (Choice a b) = max (most_pieces a) (most_pieces b)
most_pieces (Only dir a) = most_pieces a
most_pieces (Charge k a) = suc (most_pieces a)
