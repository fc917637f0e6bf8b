-- Each cell is laid out in one way.
use Rattle.std.proofs.Common.{◌≡◌, true, sym, ◌∙◌, ap, List}
use Rattle.std.specs.List.{list_all}
use Rattle.rf_rows.specs.declared.cells.Cell.{Cell}
use Rattle.rf_rows.specs.Choiceless.{is_single}
use Rattle.rf_rows.proofs.Choiceless.{cells_choiceless}
use Rattle.rf_rows.proofs.laid.LaidRows.is_choiceless.Goals as goal

pub returns : goal.returns
returns c = λ yes k.
    let rows = c.args.self.now.rows.now in
    let all : list_all (λ (x : Cell). is_single x.layouts) rows.cells.items ≡ true =
    ap (λ (l : List Cell). list_all (λ (x : Cell). is_single x.layouts) l) (sym c.as_slice.ensures.value) ∙ sym c.are_single.ensures ∙ yes in
    cells_choiceless rows.pieces.items rows.cells.items c.args.self.now.rows.now.stand.cells all k
