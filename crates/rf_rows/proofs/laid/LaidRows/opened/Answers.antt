-- Where there is no cell there is no text.
use Rattle.std.proofs.Common.{◌≡◌, Some, None, slice_get, rules}
use Rattle.std.specs.Str.{chars}
use Rattle.rf_rows.specs.Nodes.{cell_of}
use Rattle.rf_rows.proofs.Opened.{of_no_cell}
use Rattle.rf_rows.proofs.Slices.{get_none}
use Rattle.rf_rows.proofs.laid.LaidRows.opened.Goals as goal

pub returns-in-None-get : goal.returns-in-None-get
unfolding chars
returns-in-None-get c =
    let rows = c.args.self.now.rows.now in
    let named : cell_of c.args.node ≡ Some c.in-Some.k = search rules in
    let none : slice_get rows.cells.items c.in-Some.k ≡ None = get_none c.in-Some.k c.deref.ensures.value c.in-None-get.ensures.lookup.0 in
    of_no_cell rows.pieces.items rows.cells.items c.args.node c.in-Some.k named none
