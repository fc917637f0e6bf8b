-- The piece on the stack is a node, where all cells are.
use Rattle.std.proofs.Common.{List, sym, subst}
use Rattle.rf_doc.specs.declared.nodes.NodeId.{NodeId}
use Rattle.rf_rows.specs.declared.pieces.Fill.TheVariants as fill
use Rattle.rf_rows.specs.Cells.{cell_at}
use Rattle.rf_row_graph.specs.Parts.{AreDone}
use Rattle.rf_row_graph.proofs.Standing.{shared_kept}
use Rattle.rf_row_graph.proofs.Cells.{node_alone, node_within}
use Rattle.rf_row_graph.proofs.adding.add_rows.Goals as goal

pub add_piece-requires-clause-shared : goal.add_piece-requires-clause-shared
add_piece-requires-clause-shared c = shared_kept c.add_shared.new.graph c.add_cells.new.graph c.in_ok-shared.shared c.in_ok-done.ensures.older c.in_ok-shared.ensures.stand

pub returns-clause-document : goal.returns-clause-document
returns-clause-document c d alone =
    let f = cell_at c.args.rows.now.pieces.items c.args.rows.now.cells.items in
    let all = subst (λ (l : List NodeId). AreDone c.add_cells.new.graph f l) (sym c.as_slice.ensures.value) c.in_ok-done.ensures.done in
    node_alone c.add_piece.new.graph c.with.result.0 c.in_ok-shared.shared c.in_ok-node.node f c.args.rows.now.stack.items _ _ d c.with.ensures c.index.ensures (alone fill.Newline)
    (c.in_ok-node.ensures.document f fill.Newline all)

pub returns-clause-in_graph : goal.returns-clause-in_graph
returns-clause-in_graph c =
    let f = cell_at c.args.rows.now.pieces.items c.args.rows.now.cells.items in
    let all = subst (λ (l : List NodeId). AreDone c.add_cells.new.graph f l) (sym c.as_slice.ensures.value) c.in_ok-done.ensures.done in
    node_within c.add_piece.new.graph c.with.result.0 c.in_ok-shared.shared c.in_ok-node.node f _ c.with.ensures (c.in_ok-node.ensures.document f fill.Newline all)
