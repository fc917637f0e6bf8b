-- The cell stands among the pieces.
use Rattle.std.proofs.Common.{length, List, ap, arith}
use Rattle.rf_rows.specs.declared.pieces.Piece.{Piece}
use Rattle.rf_rows.proofs.Opened.{cell_within}
use Rattle.rf_row_graph.proofs.adding.pieces_of.Goals as goal

pub overflow_add-result : goal.overflow_add-result
overflow_add-result c =
    let rows = c.args.rows.now in
    omega (arith, rows.pieces.small, rows.pieces.ok, cell_within rows.pieces.items rows.cells.items c.args._k c.args.cell.now rows.stand.cells c.requires)

pub offset_bounds-deref-from : goal.offset_bounds-deref-from
offset_bounds-deref-from c =
    let rows = c.args.rows.now in
    omega (arith, rows.pieces.small, rows.pieces.ok, cell_within rows.pieces.items rows.cells.items c.args._k c.args.cell.now rows.stand.cells c.requires)

pub slice_bounds-result-end : goal.slice_bounds-result-end
slice_bounds-result-end c =
    let rows = c.args.rows.now in
    let within = cell_within rows.pieces.items rows.cells.items c.args._k c.args.cell.now rows.stand.cells c.requires in
    omega (arith, rows.pieces.small, rows.pieces.ok, within, ap (λ (l : List Piece). length l) c.deref.ensures.value)
