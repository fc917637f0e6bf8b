-- The cell is its one resolution.
use Rattle.std.proofs.Common.{◌∙◌, Err, ap}
use Rattle.rf_rows.specs.Laid.{laid_cell}
use Rattle.rf_rows.proofs.Limits.{at_document}
use Rattle.rf_whole.proofs.Formed.{width_is_column}
use Rattle.rf_whole.proofs.Settled.{single, settled_long}
use Rattle.rf_whole.proofs.TooLong.{walked_long, told_long}
use Rattle.rf_whole.proofs.rows.settled_form.Goals as goal

pub write_cell-requires : goal.write_cell-requires
write_cell-requires g c =
    let d = laid_cell c.args.laid.now c.args.cell in
    let one = single d c.requires.choiceless c.requires.layout in
    (one.whole, (d, one.picked, one.rendered))

pub returns-in_err-written-clause-too_long : goal.returns-in_err-written-clause-too_long
returns-in_err-written-clause-too_long g c is =
    let rows = c.args.laid.now.rows.now in
    let d = laid_cell c.args.laid.now c.args.cell in
    let one = single d c.requires.choiceless c.requires.layout in
    let long = walked_long c.in_err-written.field-0.0 (told_long _ _ c.from_residual.ensures.1 is) in
    settled_long (g.F.Factory.costs c.args.task.now.factory.now) c.args.task.now.limit d (g.met.F.Factory.lawful c.args.task.now.factory.now) (width_is_column c.args.task.now.limit c.args.task.now.width)
    (at_document rows.pieces.items rows.cells.items rows.stand.cells c.args.cell) c.requires.choiceless one
    (c.write_cell.ensures.too_long (c.in_err-written.was ∙ ap Err long) d one.picked)

pub returns-clause-form : goal.returns-clause-form
returns-clause-form g c is =
    let rows = c.args.laid.now.rows.now in
    let d = laid_cell c.args.laid.now c.args.cell in
    let one = single d c.requires.choiceless c.requires.layout in
    c.put_settled.ensures d (at_document rows.pieces.items rows.cells.items rows.stand.cells c.args.cell) c.requires.choiceless c.requires.layout
    ((rw c.in-Some.is at c.in_ok-written.ensures.written) d one.picked)
