-- A cell without layouts of its own is its pieces in a row.
use Rattle.std.proofs.Common.{sym, ◌∙◌}
use Rattle.rf_rows.specs.declared.layouts.Layouts.TheVariants.{Bare}
use Rattle.rf_rows.specs.Layouts.{cell_doc}
use Rattle.rf_rows.proofs.Opened.{cell_is}
use Rattle.rf_rows.proofs.laid.LaidRows.several_of.Goals as goal

pub returns-in-Bare : goal.returns-in-Bare
unfolding cell_doc
returns-in-Bare c =
    let rows = c.args.self.now.rows.now in
    c.whole.ensures ∙ sym (cell_is rows.pieces.items rows.cells.items c.args.k c.args.cell.now Bare c.args.self.now.rows.now.stand.cells c.requires c.in-Bare.is)
