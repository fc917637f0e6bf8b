-- The cell stands among the pieces, and its slots in order.
use Rattle.rf_rows.proofs.Opened.{cell_strip, strip_is, cell_within}
use Rattle.rf_rows.proofs.laid.LaidRows.strip.Goals as goal

pub returns-clause-stands : goal.returns-clause-stands
returns-clause-stands c =
    let rows = c.args.self.now.rows.now in
    strip_is c.args.cell.now.count c.strip.result _ c.strip.ensures (cell_strip rows.pieces.items rows.cells.items c.args._k c.args.cell.now c.args.row c.args.self.now.rows.now.stand.cells c.requires)

pub returns-clause-within : goal.returns-clause-within
returns-clause-within c =
    let rows = c.args.self.now.rows.now in
    cell_within rows.pieces.items rows.cells.items c.args._k c.args.cell.now c.args.self.now.rows.now.stand.cells c.requires
