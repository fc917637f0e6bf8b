-- The second and the third of three layouts are layouts of the cell.
use Rattle.std.proofs.Common.{sym, subst}
use Rattle.rf_base_document.specs.Document.{Doc}
use Rattle.rf_outline.specs.Documents.{IsOpened}
use Rattle.rf_rows.specs.Layouts.{layout_doc}
use Rattle.rf_rows.specs.Nodes.{node_doc, row_of}
use Rattle.rf_rows.proofs.Opened.{others_node, laid_node}
use Rattle.rf_rows.proofs.laid.LaidRows.opened_in.Goals as goal

pub returns-in-Others : goal.returns-in-Others
returns-in-Others c =
    let rows = c.args.self.now.rows.now in
    let cell = c.args.cell.now in
    let f = node_doc rows.pieces.items rows.cells.items in
    subst (λ (d : Doc). IsOpened f d c.opened_others.result) (sym (others_node rows.pieces.items rows.cells.items c.args.node c.in-Others.field-0 c.args.k cell c.requires.named c.in-Others.is c.requires.cell))
    (c.opened_others.ensures f (layout_doc cell.marks cell.count (row_of rows.pieces.items rows.cells.items cell))
    (λ which. laid_node rows.pieces.items rows.cells.items c.args.k cell which c.requires.cell))
