-- The piece stands among those of the cell.
use Rattle.std.proofs.Common.{◌+◌, ◌∙◌, length, refl, arith}
use Rattle.std.proofs.lemmas.Option.{slice_get_read}
use Rattle.rf_rows.proofs.Opened.{cell_within, piece_kept, stands_at}
use Rattle.rf_rows.proofs.laid.LaidRows.piece_of.Goals as goal

pub overflow_add-cell : goal.overflow_add-cell
overflow_add-cell c =
    let rows = c.args.self.now.rows.now in
    omega (arith, rows.pieces.small, rows.pieces.ok, c.requires.within, cell_within rows.pieces.items rows.cells.items c.args._k c.args.cell.now c.args.self.now.rows.now.stand.cells c.requires.cell)

pub index-requires : goal.index-requires
index-requires c =
    let rows = c.args.self.now.rows.now in
    omega (arith, rows.pieces.small, rows.pieces.ok, c.requires.within, cell_within rows.pieces.items rows.cells.items c.args._k c.args.cell.now c.args.self.now.rows.now.stand.cells c.requires.cell)

pub returns-clause-piece : goal.returns-clause-piece
returns-clause-piece c =
    let rows = c.args.self.now.rows.now in
    piece_kept rows.pieces.items c.args._k c.args.cell.now c.args.i (stands_at rows.pieces.items rows.cells.items c.args._k c.args.cell.now c.args.self.now.rows.now.stand.cells c.requires.cell) c.requires.within
    ∙ slice_get_read rows.pieces.items (length rows.pieces.items) (c.args.cell.now.from + c.args.i) c.index.result.now refl
    (omega (arith, c.requires.within, cell_within rows.pieces.items rows.cells.items c.args._k c.args.cell.now c.args.self.now.rows.now.stand.cells c.requires.cell)) c.index.ensures

pub returns-clause-small : goal.returns-clause-small
returns-clause-small c =
    let rows = c.args.self.now.rows.now in
    omega (arith, rows.pieces.small, rows.pieces.ok, c.requires.within, cell_within rows.pieces.items rows.cells.items c.args._k c.args.cell.now c.args.self.now.rows.now.stand.cells c.requires.cell)
