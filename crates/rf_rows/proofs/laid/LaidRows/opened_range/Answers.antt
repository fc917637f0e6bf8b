-- The range is its halves in a row, where it is one.
use Rattle.std.proofs.Common.{arith}
use Rattle.rf_doc.proofs.Sequence.{half_up_is}
use Rattle.rf_rows.proofs.Opened.{range_halves}
use Rattle.rf_rows.specs.Nodes.{docs_of}
use Rattle.rf_rows.proofs.laid.LaidRows.opened_range.Goals as goal

pub returns : goal.returns
returns c =
    let rows = c.args.self.now.rows.now in
    range_halves (docs_of rows.pieces.items rows.cells.items c.args.cell.now c.args.row) c.args.from c.args.to c.div_ceil.result _ _ c.if-from-to.false c.if-to-lt2.false (omega (arith, c.if-to-end.false, c.end-end.ensures)) (half_up_is _ _ c.div_ceil.ensures) c.range.ensures.document c.range-2.ensures.document
