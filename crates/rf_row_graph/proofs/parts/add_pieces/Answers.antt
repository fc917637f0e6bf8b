-- One more piece.
use Rattle.std.proofs.Common.{List, length, ap, subst, arith}
use Rattle.rf_doc.proofs.Extending.{extends_itself, extends_both}
use Rattle.rf_rows.specs.declared.pieces.Piece.{Piece}
use Rattle.rf_rows.specs.Cells.{filled_by}
use Rattle.rf_row_graph.specs.declared.parts.PieceNode.{PieceNode}
use Rattle.rf_row_graph.specs.Parts.{PartsStand}
use Rattle.rf_row_graph.proofs.Standing.{shared_kept, done_kept}
use Rattle.rf_row_graph.proofs.Cells.{no_part, one_part_more, one_longer}
use Rattle.std.proofs.lemmas.List.{take_all}
use Rattle.rf_row_graph.proofs.parts.add_pieces.Goals as goal

pub loop-piece-init : goal.loop-piece-init
loop-piece-init c =
    record {
      documents = λ f all. no_part c.args.graph.now c.args.shared.now c.clear.new.self.items f c.clear.ensures.items;
      count = ap (λ (l : List PieceNode). length l) c.clear.ensures.items;
      older = extends_itself c.args.graph.now;
      few = omega arith;
    }

pub add_piece-requires-clause-shared : goal.add_piece-requires-clause-shared
add_piece-requires-clause-shared c = shared_kept c.args.graph.now c.loop-piece.graph c.args.shared.now c.loop-piece.invariant.older c.requires.shared

pub loop-piece-preserved : goal.loop-piece-preserved
loop-piece-preserved c =
    record {
      documents = λ f all.
          one_part_more c.loop-piece.graph c.add_piece.new.graph c.args.shared.now c.loop-piece.nodes.items c.push.new.self.items c.in_ok-node.node f c.args.pieces.now c.loop-piece.piece-index _
          c.loop-piece-test.true c.in_ok-push.ensures.items c.in_ok-node.ensures.older (c.loop-piece.invariant.documents f all)
          (λ fill. c.in_ok-node.ensures.document f fill (done_kept c.args.graph.now c.loop-piece.graph f c.args.done.now c.loop-piece.invariant.older all));
      count = one_longer c.loop-piece.nodes.items c.push.new.self.items c.in_ok-node.node c.loop-piece.piece-index c.in_ok-push.ensures.items c.loop-piece.invariant.count;
      older = extends_both c.args.graph.now c.loop-piece.graph c.add_piece.new.graph c.loop-piece.invariant.older c.in_ok-node.ensures.older;
      few = omega (arith, c.loop-piece.invariant.few, c.in_ok-node.ensures.grown);
    }

pub returns-clause-documents : goal.returns-clause-documents
returns-clause-documents c f all =
    subst (λ (ps : List Piece). PartsStand c.loop-piece.graph c.args.shared.now c.loop-piece.nodes.items (filled_by f ps)) (take_all c.loop-piece.piece-index c.args.pieces.now c.loop-piece-test.false)
    (c.loop-piece.invariant.documents f all)
