-- One more cell.
use Rattle.std.proofs.Common.{◌+◌, List, length, take, ap, subst, ◌∙◌, arith}
use Rattle.rf_base_document.specs.Graph.{StandsFor}
use Rattle.rf_doc.specs.declared.nodes.NodeId.{NodeId}
use Rattle.rf_doc.proofs.Extending.{extends_both}
use Rattle.rf_rows.specs.Cells.{cell_at}
use Rattle.rf_rows.specs.Sizes.{cells_size}
use Rattle.rf_row_graph.proofs.Standing.{shared_kept, done_kept}
use Rattle.rf_row_graph.proofs.Cells.{one_done_more, one_longer, first_size}
use Rattle.rf_row_graph.proofs.adding.add_cells.Goals as goal

pub add_cell-requires-clause-shared : goal.add_cell-requires-clause-shared
add_cell-requires-clause-shared c = shared_kept c.args.graph.now c.loop-k.graph c.args.shared.now c.loop-k.invariant.older c.requires.shared

pub returns-in_err-id-clause-grown : goal.returns-in_err-id-clause-grown
returns-in_err-id-clause-grown c =
    let cs = c.args.rows.now.cells.items in
    let count = ap (λ (l : List NodeId). length l) c.as_slice.ensures.value ∙ c.loop-k.invariant.count in
    omega (arith, c.add_cell.ensures.grown, c.loop-k.invariant.few, ap (λ n. cells_size (take n cs)) count, ap (λ n. cells_size (take (n + 1) cs)) count, first_size cs (c.loop-k._k + 1))

pub returns-in_err-push-clause-grown : goal.returns-in_err-push-clause-grown
returns-in_err-push-clause-grown c =
    let cs = c.args.rows.now.cells.items in
    let count = ap (λ (l : List NodeId). length l) c.as_slice.ensures.value ∙ c.loop-k.invariant.count in
    omega (arith, c.add_cell.ensures.grown, c.loop-k.invariant.few, ap (λ n. cells_size (take n cs)) count, ap (λ n. cells_size (take (n + 1) cs)) count, first_size cs (c.loop-k._k + 1))

pub loop-k-preserved : goal.loop-k-preserved
loop-k-preserved c =
    let cs = c.args.rows.now.cells.items in
    let f = cell_at c.args.rows.now.pieces.items cs in
    let count = ap (λ (l : List NodeId). length l) c.as_slice.ensures.value ∙ c.loop-k.invariant.count in
    record {
      done = one_done_more c.add_cell.new.graph f c.loop-k.done.items c.push.new.self.items c.in_ok-id.id c.loop-k._k c.in_ok-push.ensures.items c.loop-k.invariant.count
          (done_kept c.loop-k.graph c.add_cell.new.graph f c.loop-k.done.items c.in_ok-id.ensures.older c.loop-k.invariant.done)
          (subst (λ n. StandsFor c.add_cell.new.graph c.in_ok-id.id.0 (f n)) count c.in_ok-id.ensures.document);
      count = one_longer c.loop-k.done.items c.push.new.self.items c.in_ok-id.id c.loop-k._k c.in_ok-push.ensures.items c.loop-k.invariant.count;
      older = extends_both c.args.graph.now c.loop-k.graph c.add_cell.new.graph c.loop-k.invariant.older c.in_ok-id.ensures.older;
      few = omega (arith, c.add_cell.ensures.grown, c.loop-k.invariant.few, ap (λ n. cells_size (take n cs)) count, ap (λ n. cells_size (take (n + 1) cs)) count);
    }
