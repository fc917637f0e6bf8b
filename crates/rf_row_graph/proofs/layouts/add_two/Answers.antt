-- Each layout stands where the choice is made.
use Rattle.std.proofs.lemmas.Result.{IfOk-weaker}
use Rattle.rf_doc.proofs.Extending.{extends_keeps}
use Rattle.rf_row_graph.proofs.Standing.{cell_kept, parts_kept}
use Rattle.rf_row_graph.proofs.layouts.add_two.Goals as goal

pub add_layout-requires-2-clause-cell : goal.add_layout-requires-2-clause-cell
add_layout-requires-2-clause-cell c = cell_kept c.args.graph.now c.add_layout.new.graph c.args.cell.now c.in_ok-first.ensures.older c.requires.cell

pub returns-clause-document : goal.returns-clause-document
returns-clause-document c =
    IfOk-weaker c.choice.result _ _
    (λ id both docs stand.
    both _ _ (extends_keeps _ _ c.in_ok-second.ensures.older _ _ (c.in_ok-first.ensures.document docs stand))
    (c.in_ok-second.ensures.document docs (parts_kept _ _ c.args.cell.now.shared c.args.cell.now.pieces.now docs c.in_ok-first.ensures.older stand)))
    c.choice.ensures.document
