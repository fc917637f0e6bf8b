-- All documents of a row are the row.
use Rattle.rf_rows.proofs.Opened.{whole_row}
use Rattle.rf_rows.proofs.laid.LaidRows.whole.Goals as goal

pub returns : goal.returns
returns c =
    let rows = c.args.self.now.rows.now in
    whole_row rows.pieces.items rows.cells.items c.args.cell.now c.args.row c.end-end.result _ c.end-end.ensures c.range.ensures.document
