-- The nodes are put together and stand for the documents of the row.
use Rattle.std.proofs.Common.{List, ap, ◌∙◌}
use Rattle.std.proofs.lemmas.Result.{IfOk-weaker}
use Rattle.rf_doc.specs.declared.nodes.NodeId.{NodeId}
use Rattle.rf_doc.specs.Nodes.{numbers}
use Rattle.rf_row_graph.proofs.RowNodes.{put_together, strip_below, strip_seq}
use Rattle.rf_row_graph.proofs.strips.add_strip.Goals as goal

pub seq-requires : goal.seq-requires
seq-requires c =
    let together = put_together c.args.cell.now c.args.strip c.args.inner c.clear.new.self.items c.push_nodes.new.nodes.items c.push_inner.new.nodes.items c.push_nodes-2.new.nodes.items c.clear.ensures.items
    c.in_ok-push_nodes.ensures c.in_ok-push_inner.ensures c.in_ok-push_nodes-2.ensures in
    strip_below c.args.graph.now c.args.cell.now c.args.strip c.args.inner (numbers c.as_slice.result.now) c.requires.cell.0 c.requires.inner.0 c.requires.cell.1 c.requires.inner.1
    (ap (λ (l : List NodeId). numbers l) c.as_slice.ensures.value ∙ together)

pub returns-clause-document : goal.returns-clause-document
returns-clause-document c =
    let together = put_together c.args.cell.now c.args.strip c.args.inner c.clear.new.self.items c.push_nodes.new.nodes.items c.push_inner.new.nodes.items c.push_nodes-2.new.nodes.items c.clear.ensures.items
    c.in_ok-push_nodes.ensures c.in_ok-push_inner.ensures c.in_ok-push_nodes-2.ensures in
    IfOk-weaker c.seq.result _ _
    (λ id over. strip_seq c.args.graph.now c.seq.new.self c.args.cell.now c.args.strip c.args.inner (numbers c.as_slice.result.now) id.0
    (ap (λ (l : List NodeId). numbers l) c.as_slice.ensures.value ∙ together) over)
    c.seq.ensures.document
