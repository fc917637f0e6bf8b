-- The parts of the row stand in order, so its documents are as many as they are.
use Rattle.std.proofs.Common.{◌∙◌, ap, sym, arith, ◌<◌, ◌^◌, length}
use Rattle.rf_rows.specs.Nodes.{strip_length}
use Rattle.rf_rows.proofs.Opened.{cell_length, cell_few}
use Rattle.rf_rows.proofs.laid.LaidRows.end.Goals as goal

pub len-requires : goal.len-requires
len-requires c =
    let rows = c.args.self.now.rows.now in
    let few : length rows.pieces.items < 2 ^ 63 = omega (arith, rows.pieces.small, rows.pieces.ok) in
    (c.args.cell.now.count, cell_few rows.pieces.items rows.cells.items c.args._k c.args.cell.now c.args.self.now.rows.now.stand.cells c.requires.cell few, c.requires.stands)

pub returns : goal.returns
returns c =
    let rows = c.args.self.now.rows.now in
    c.len.ensures ∙ ap strip_length c.requires.strip ∙ sym (cell_length rows.pieces.items rows.cells.items c.args._k c.args.cell.now c.args._row c.args.self.now.rows.now.stand.cells c.requires.cell)
