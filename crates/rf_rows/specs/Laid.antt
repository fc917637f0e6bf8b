-- What the nodes, the cells and the rows of laid rows stand for.
use Rattle.std.specs.Prelude.{ℕ, List}
use Rattle.rf_base_document.specs.Document.{Doc}
use Rattle.rf_rows.specs.declared.pieces.Fill.{Fill}
use Rattle.rf_rows.specs.declared.cells.Cell as declared
use Rattle.rf_rows.specs.declared.layouts.Layout.{Layout}
use Rattle.rf_rows.specs.declared.layouts.Row.{Row}
use Rattle.rf_rows.specs.declared.laid.LaidRows.{LaidRows}
use Rattle.rf_rows.specs.declared.nodes.Node.{Node}
use Rattle.rf_rows.specs.Layouts.{Filled, layout_doc, row_doc}
use Rattle.rf_rows.specs.Cells.{cell_at}
use Rattle.rf_rows.specs.Nodes.{run_docs, row_of, docs_of, node_doc, node_docs}

-- a node
abbrev pub laid_doc : LaidRows → Node → Doc
laid_doc laid = node_doc laid.rows.now.pieces.items laid.rows.now.cells.items

-- the documents that a node is told to be
abbrev pub laid_sequence : LaidRows → Node → List Doc
laid_sequence laid = node_docs laid.rows.now.pieces.items laid.rows.now.cells.items

-- cell k
abbrev pub laid_cell : LaidRows → ℕ → Doc
laid_cell laid k = cell_at laid.rows.now.pieces.items laid.rows.now.cells.items k

-- the pieces of a cell by what stands in their gaps; what a row and a layout of it stand for, and the documents of a
-- row
abbrev pub laid_pieces : LaidRows → declared.Cell → Filled
laid_pieces laid c = row_of laid.rows.now.pieces.items laid.rows.now.cells.items c

abbrev pub laid_row : LaidRows → declared.Cell → Row → Doc
laid_row laid c = row_doc c.marks c.count (laid_pieces laid c)

abbrev pub laid_layout : LaidRows → declared.Cell → Layout → Doc
laid_layout laid c = layout_doc c.marks c.count (laid_pieces laid c)

abbrev pub laid_docs : LaidRows → declared.Cell → Row → List Doc
laid_docs laid c row = docs_of laid.rows.now.pieces.items laid.rows.now.cells.items c row

-- all pieces with this in their gaps
abbrev pub laid_run : LaidRows → Fill → List Doc
laid_run laid fill = run_docs laid.rows.now.pieces.items laid.rows.now.cells.items fill
