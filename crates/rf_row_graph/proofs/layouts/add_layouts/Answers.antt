-- A cell is the choice among its layouts.
use Rattle.std.proofs.Common.{length, sym, subst}
use Rattle.std.proofs.lemmas.Result.{IfOk-weaker}
use Rattle.rf_base_document.specs.Graph.{StandsFor}
use Rattle.rf_doc.proofs.Extending.{extends_keeps}
use Rattle.rf_rows.specs.declared.layouts.Layouts.{Layouts}
use Rattle.rf_rows.specs.Layouts.{cell_doc}
use Rattle.rf_row_graph.proofs.Standing.{cell_kept, parts_kept}
use Rattle.rf_row_graph.proofs.layouts.add_layouts.Goals as goal

pub add_two-requires-in-Three-clause-cell : goal.add_two-requires-in-Three-clause-cell
add_two-requires-in-Three-clause-cell c = cell_kept c.args.graph.now _ c.args.cell.now c.in_ok-first-in-Three.ensures.older c.requires.cell

pub returns-in-Bare-clause-document : goal.returns-in-Bare-clause-document
unfolding cell_doc
returns-in-Bare-clause-document c =
    IfOk-weaker c.add_row.result _ _
    (λ id row docs stand.
    subst (λ (l : Layouts). StandsFor c.add_row.new.graph id.0 (cell_doc c.args.cell.now.marks (length c.args.cell.now.pieces.now) docs l)) (sym c.in-Bare.is) (row docs stand))
    c.add_row.ensures.document

pub returns-in-One-clause-document : goal.returns-in-One-clause-document
unfolding cell_doc
returns-in-One-clause-document c =
    IfOk-weaker c.add_layout.result _ _
    (λ id layout docs stand.
    subst (λ (l : Layouts). StandsFor c.add_layout.new.graph id.0 (cell_doc c.args.cell.now.marks (length c.args.cell.now.pieces.now) docs l)) (sym c.in-One.is) (layout docs stand))
    c.add_layout.ensures.document

pub returns-in-Two-clause-document : goal.returns-in-Two-clause-document
unfolding cell_doc
returns-in-Two-clause-document c =
    IfOk-weaker c.add_two.result _ _
    (λ id both docs stand.
    subst (λ (l : Layouts). StandsFor c.add_two.new.graph id.0 (cell_doc c.args.cell.now.marks (length c.args.cell.now.pieces.now) docs l)) (sym c.in-Two.is) (both docs stand))
    c.add_two.ensures.document

pub returns-in_ok-others-in-Three-clause-document : goal.returns-in_ok-others-in-Three-clause-document
unfolding cell_doc
returns-in_ok-others-in-Three-clause-document c =
    IfOk-weaker c.choice.result _ _
    (λ id both docs stand.
    subst (λ (l : Layouts). StandsFor c.choice.new.self id.0 (cell_doc c.args.cell.now.marks (length c.args.cell.now.pieces.now) docs l)) (sym c.in-Three.is)
    (both _ _ (extends_keeps _ _ c.in_ok-others-in-Three.ensures.older _ _ (c.in_ok-first-in-Three.ensures.document docs stand))
    (c.in_ok-others-in-Three.ensures.document docs (parts_kept _ _ c.args.cell.now.shared c.args.cell.now.pieces.now docs c.in_ok-first-in-Three.ensures.older stand))))
    c.choice.ensures.document
