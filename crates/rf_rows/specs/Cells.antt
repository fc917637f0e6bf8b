-- The documents of pieces and of cells.
use Rattle.std.specs.Prelude.{◌≡◌, ℕ, zero, suc, ◌+◌, ◌≤◌, ◌<◌, Option, None, Some, List, [], length, map, codes, slice_get, ⊤}
use Rattle.std.specs.List.{All, slice_range}
use Rattle.std.specs.Str.{chars}
use Rattle.rf_base_document.specs.Document as doc
use Rattle.rf_base_document.specs.Document.{Doc, plain_text, KeepsTextLimits}
use Rattle.rf_base_file.specs.Rows.{bare_break}
use Rattle.rf_doc.specs.declared.limits.TheConstants.{TEXT_LIMIT}
use Rattle.rf_rows.specs.declared.pieces.Fill.{Fill}
use Rattle.rf_rows.specs.declared.pieces.Piece.{Piece}
use Rattle.rf_rows.specs.declared.pieces.Piece.TheVariants.{Text, Space, Newline, Hard, BareBreak, Gap, Cell}
use Rattle.rf_rows.specs.declared.cells.Cell as declared
use Rattle.rf_rows.specs.Layouts.{Filled, fill_doc, cell_doc, AreMarks, AreCellLayouts}

-- a piece with this in its gap, where cells are told by f
abbrev pub piece_doc : (ℕ → Doc) → Fill → Piece → Doc
piece_doc f fill (Text len s) = doc.Text (chars s.now) len
piece_doc f fill Space = plain_text (codes " ")
piece_doc f fill Newline = doc.Newline
piece_doc f fill Hard = doc.Hard
piece_doc f fill BareBreak = bare_break
piece_doc f fill Gap = fill_doc fill
piece_doc f fill (Cell k) = f k

-- pieces, by what stands in their gaps
abbrev pub filled_by : (ℕ → Doc) → List Piece → Filled
filled_by f ps = λ fill. map (piece_doc f fill) ps

-- the pieces of a cell
abbrev pub pieces_of : List Piece → declared.Cell → List Piece
pieces_of ps c = slice_range ps c.from (c.from + c.count)

-- the document of a cell, where other cells are told by f
abbrev pub told_cell : (ℕ → Doc) → List Piece → Option declared.Cell → Doc
told_cell f ps None = plain_text []
told_cell f ps (Some c) = cell_doc c.marks c.count (filled_by f (pieces_of ps c)) c.layouts

-- cell k, in which cells stand at most depth deep
unfoldable pub cell_to : ℕ → List Piece → List declared.Cell → ℕ → Doc
cell_to zero ps cs k = plain_text []
cell_to (suc depth) ps cs k = told_cell (cell_to depth ps cs) ps (slice_get cs k)

-- the document of cell k
unfoldable pub cell_at : List Piece → List declared.Cell → ℕ → Doc
cell_at ps cs k = cell_to (suc k) ps cs k

-- the piece keeps the limits, also that of a node's text, and a cell has a smaller number than k
abbrev pub IsBelow : ℕ → Piece → Type 0
IsBelow k (Text len s) = KeepsTextLimits (chars s.now) len × (length s.now ≤ TEXT_LIMIT)
IsBelow k Space = ⊤
IsBelow k Newline = ⊤
IsBelow k Hard = ⊤
IsBelow k BareBreak = ⊤
IsBelow k Gap = ⊤
IsBelow k (Cell j) = j < k

-- cell k stands among these pieces, above its own, and its slots in order
pub record CellStands (ps : List Piece) (k : ℕ) (c : declared.Cell) : Type 0 where
  pub within : c.from + c.count ≤ length ps
  pub below : All (IsBelow k) (pieces_of ps c)
  pub marks : AreMarks c.marks c.count
  pub layouts : AreCellLayouts c.layouts c.count

-- each cell does
unfoldable pub CellsStand : List Piece → List declared.Cell → Type 0
CellsStand ps cs = (k : ℕ) (c : declared.Cell) → slice_get cs k ≡ Some c → CellStands ps k c
