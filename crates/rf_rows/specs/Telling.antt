-- What laid rows tell of their nodes.
use Rattle.std.specs.Prelude.{ℕ, ◌+◌, ◌<◌, ◌&&◌, nat_le, if◌then◌else◌, Bool, true, false, List, length, Option, None, Some, slice_get}
use Rattle.rf_outline.specs.declared.documents.Span.TheVariants as span
use Rattle.rf_outline.specs.Documents.{Told}
use Rattle.rf_outline.specs.declared.facts.Line.{Line}
use Rattle.rf_outline.specs.Documents.{View}
use Rattle.rf_outline.specs.Outlined.{nothing_told, told_by, facts_of, span_of}
use Rattle.rf_rows.specs.declared.pieces.Fill.{Fill}
use Rattle.rf_rows.specs.declared.pieces.Fill.TheVariants as fill
use Rattle.rf_rows.specs.declared.pieces.Piece.{Piece}
use Rattle.rf_rows.specs.declared.pieces.Piece.TheVariants as piece
use Rattle.rf_rows.specs.declared.cells.Cell as declared
use Rattle.rf_rows.specs.declared.layouts.Layouts.{Layouts}
use Rattle.rf_rows.specs.declared.layouts.Layouts.TheVariants.{Bare, One, Two, Three, Unmade}
use Rattle.rf_rows.specs.declared.nodes.Node.{Node}
use Rattle.rf_rows.specs.declared.nodes.Node.TheVariants.{Leaf, Run, Cell, Others, Laid, Unpaid, Aligned, Nested, Range, Break, Nothing}
use Rattle.rf_rows.specs.declared.rows.Rows.{Rows}
use Rattle.rf_rows.specs.Nodes.{node_doc, node_docs}
use Rattle.rf_rows.specs.declared.known.KnownCell.{KnownCell}
use Rattle.rf_rows.specs.Knowing.{line_of_laid, AreKnownCells}

-- a text of so many columns
abbrev pub told_text : ℕ → Told
told_text len = record { span = span.Text len; begins = false }

-- a break, or, where flat, one space
abbrev pub told_newline : Bool → Told
told_newline true = told_text 1
told_newline false = record { span = span.Never; begins = true }

-- a break, which has no layout where flat
abbrev pub told_break : Told
told_break = record { span = span.Never; begins = true }

-- what is told of a gap
abbrev pub told_gap : Fill → Bool → Told
told_gap fill.Space flat = told_text 1
told_gap fill.Newline flat = told_newline flat
told_gap fill.Hard flat = told_break

-- what is told of a piece that is no cell, with this in its gap
abbrev pub told_piece : Fill → Bool → Option Piece → Told
told_piece f flat None = told_text 0
told_piece f flat (Some (piece.Text len s)) = told_text len
told_piece f flat (Some piece.Space) = told_text 1
told_piece f flat (Some piece.Newline) = told_newline flat
told_piece f flat (Some piece.Hard) = told_break
told_piece f flat (Some piece.BareBreak) = told_break
told_piece f flat (Some piece.Gap) = told_gap f flat
told_piece f flat (Some (piece.Cell k)) = told_text 0

-- whether pieces from one up to another, two at least, begin with a break
abbrev pub run_begins : List Piece → ℕ → ℕ → Fill → Bool → Bool
run_begins ps from to f flat =
    if nat_le (from + 2) to && nat_le to (length ps) then (told_piece f flat (slice_get ps from)).begins else false

abbrev pub told_run : Bool → Told
told_run begins = record { span = span.Unsure; begins = begins }

-- what is told of a cell, and of a layout of a cell
abbrev pub told_cell : Option KnownCell → Bool → Told
told_cell None flat = nothing_told
told_cell (Some known) flat = told_by (facts_of known.document flat)

abbrev pub told_laid : Line → Told
told_laid line = record { span = span_of line; begins = false }

abbrev pub told_node : List Piece → List declared.Cell → List KnownCell → Node → Bool → Told
told_node ps cs list (Leaf e f) flat = told_piece f flat (slice_get ps e)
told_node ps cs list (Run from to f) flat = told_run (run_begins ps from to f flat)
told_node ps cs list (Cell k) flat = told_cell (slice_get list k) flat
told_node ps cs list (Laid k which) flat = told_laid (line_of_laid (slice_get cs k) (slice_get list k) which)
told_node ps cs list Break flat = told_break
told_node ps cs list Nothing flat = told_text 0
told_node ps cs list _ flat = nothing_told

-- a cell whose layouts are aligned has its own number, and no other node has one
abbrev pub laid_number : ℕ → Layouts → Option ℕ
laid_number k Bare = None
laid_number k (One a) = Some k
laid_number k (Two a b) = Some k
laid_number k (Three a b c) = Some k
laid_number k (Unmade u) = None

abbrev pub cell_number : ℕ → Option declared.Cell → Option ℕ
cell_number k None = None
cell_number k (Some cell) = laid_number k cell.layouts

abbrev pub number_of : List declared.Cell → Node → Option ℕ
number_of cs (Cell k) = cell_number k (slice_get cs k)
number_of cs _ = None

-- laid rows and what is known of their cells, as documents that are told
abbrev pub seen : Rows → List KnownCell → View Node
seen rows list =
    record {
      document = node_doc rows.pieces.items rows.cells.items;
      sequence = node_docs rows.pieces.items rows.cells.items;
      told = told_node rows.pieces.items rows.cells.items list;
      number = number_of rows.cells.items;
      rests_on = λ ways. (0 < length ways) × AreKnownCells ways rows.pieces.items rows.cells.items list;
    }
