-- What is known of cells, and of their pieces.
use Rattle.std.specs.Prelude.{◌≡◌, ℕ, ◌+◌, ◌<◌, Bool, true, false, ◌&&◌, ◌==◌, if◌then◌else◌, Option, None, Some, List, [], ◌∷◌, ◌++◌, map, take, drop, slice_get}
use Rattle.std.specs.List.{slice_range}
use Rattle.rf_base_document.specs.declared.directions.Dir.{Dir}
use Rattle.rf_base_document.specs.Document.{Doc, Text, Concat, plain_text}
use Rattle.rf_base_document.specs.Simple.{simple}
use Rattle.rf_base_cut.specs.Documents.{flat_length_in}
use Rattle.rf_base_cut.specs.DocumentLines.{never_free_in, OneLineIn}
use Rattle.rf_frontier.specs.declared.hows.How.{How}
use Rattle.rf_outline.specs.declared.facts.Line.{Line}
use Rattle.rf_outline.specs.declared.facts.Line.TheVariants.{Unsure}
use Rattle.rf_outline.specs.Known.{LineHolds, KnownHolds}
use Rattle.rf_rows.specs.declared.pieces.Fill.{Fill}
use Rattle.rf_rows.specs.declared.pieces.Fill.TheVariants as fill
use Rattle.rf_rows.specs.declared.pieces.Piece.{Piece}
use Rattle.rf_rows.specs.declared.pieces.Piece.TheVariants as piece
use Rattle.rf_rows.specs.declared.cells.Cell as declared
use Rattle.rf_rows.specs.declared.knowing.Gathered.{Gathered}
use Rattle.rf_rows.specs.declared.known.KnownCell.{KnownCell}
use Rattle.rf_rows.specs.declared.known.KnownPieces.{KnownPieces}
use Rattle.rf_rows.specs.declared.layouts.Row.{Row}
use Rattle.rf_rows.specs.declared.layouts.Row.TheVariants.{Dropped, Hanging, InLine, InColumn}
use Rattle.rf_rows.specs.declared.layouts.Marks.{Marks}
use Rattle.rf_rows.specs.declared.layouts.Layout.{Layout}
use Rattle.rf_rows.specs.declared.layouts.Which.{Which}
use Rattle.rf_rows.specs.Cells.{piece_doc, pieces_of, cell_at}
use Rattle.rf_rows.specs.Nodes.{layout_at}

-- documents one behind another
unfoldable pub chain : List Doc → Doc
chain [] = plain_text []
chain (d ∷ ds) = Concat d (chain ds)

-- pieces with a space in each gap, where cells are told by f
abbrev pub spaced : (ℕ → Doc) → List Piece → List Doc
spaced f qs = map (piece_doc f fill.Space) qs

-- the same with a newline in each gap from a place on, and another fill from a later one on
abbrev pub mixed : (ℕ → Doc) → List Piece → ℕ → ℕ → Fill → List Doc
mixed f qs second bodies last =
    spaced f (take second qs)
    ++ (map (piece_doc f fill.Newline) (slice_range qs second bodies) ++ map (piece_doc f last) (drop bodies qs))

-- the last gap is the last of so many pieces; there is none where these are none
pub record EndsGaps (qs : List Piece) (count : ℕ) : Type 0 where
  pub before : (i : ℕ) → slice_get qs i ≡ Some piece.Gap → i < count
  pub there : (i : ℕ) → count ≡ i + 1 → slice_get qs i ≡ Some piece.Gap

-- how many pieces there are up to the last gap, where p stands behind so many others, up to whose last gap there are so
-- many
abbrev pub up_to_gap : Piece → ℕ → ℕ → ℕ
up_to_gap piece.Gap before gaps = before + 1
up_to_gap _ before gaps = gaps

-- what is told of one document on one line, flat or not, holds of the other
pub record Passes (d e : Doc) (flat : Bool) : Type 0 where
  pub never : never_free_in d flat ≡ true → never_free_in e flat ≡ true
  pub line : (len : ℕ) (how : List Dir) → OneLineIn d flat len how → OneLineIn e flat len how
  pub text : (len : ℕ) → flat_length_in d flat ≡ Some len → flat_length_in e flat ≡ Some len
  pub nothing : simple d flat ≡ None → simple e flat ≡ None

-- what is told of pieces on one line holds of the document that they are one behind another: the lines do of the first
-- ones, and the others are so many columns behind them
pub record IsGathered (ways : List How) (d : Doc) (gathered : Gathered) : Type 0 where
  pub first : Doc
  pub loose : LineHolds ways first false gathered.loose
  pub flat : LineHolds ways first true gathered.flat
  pub passes : (flat : Bool) → Passes (Concat first (Text [] gathered.columns)) d flat

-- what is told of the pieces of a cell holds
pub record ArePiecesKnown (ways : List How) (ps : List Piece) (cs : List declared.Cell) (c : declared.Cell)
    (known : KnownPieces) : Type 0 where
  pub loose : LineHolds ways (chain (spaced (cell_at ps cs) (pieces_of ps c))) false known.loose
  pub flat : LineHolds ways (chain (spaced (cell_at ps cs) (pieces_of ps c))) true known.flat
  pub gaps : EndsGaps (pieces_of ps c) known.gaps

-- what is told of cell k holds
pub record IsCellKnown (ways : List How) (ps : List Piece) (cs : List declared.Cell) (k : ℕ) (known : KnownCell)
    : Type 0 where
  pub document : KnownHolds ways (cell_at ps cs k) known.document
  pub line : (c : declared.Cell) → slice_get cs k ≡ Some c →
      LineHolds ways (chain (spaced (cell_at ps cs) (pieces_of ps c))) true known.line

-- what is told of each of the first cells, in order, holds
unfoldable pub AreKnownCells : List How → List Piece → List declared.Cell → List KnownCell → Type 0
AreKnownCells ways ps cs list =
    (k : ℕ) (known : KnownCell) → slice_get list k ≡ Some known → IsCellKnown ways ps cs k known

-- where it is flat, the row is all pieces of its cell with a space in each gap
abbrev pub is_soft : Fill → Bool
is_soft fill.Hard = false
is_soft _ = true

abbrev pub is_spaced : Marks → Row → Bool
is_spaced m Dropped = true
is_spaced m Hanging = true
is_spaced m InLine = is_soft m.fill
is_spaced m InColumn = is_soft m.fill
is_spaced m _ = false

-- the line of a layout that is flat and free, where its cell's pieces have this line
abbrev pub line_of_layout : Marks → Option Layout → Line → Line
line_of_layout m None line = Unsure
line_of_layout m (Some l) line = if l.flat && (l.charge == 0) && is_spaced m l.row then line else Unsure

abbrev pub line_of_laid : Option declared.Cell → Option KnownCell → Which → Line
line_of_laid (Some c) (Some known) which = line_of_layout c.marks (layout_at c.layouts which) known.line
line_of_laid _ _ which = Unsure
