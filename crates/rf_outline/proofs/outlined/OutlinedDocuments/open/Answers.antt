-- A node is told as it is unfolded.
use Rattle.std.proofs.Common.{sym, subst, arith}
use Rattle.std.proofs.lemmas.Bool.Decides.{nat_tests}
use Rattle.std.specs.Str.{chars}
use Rattle.rf_base_document.specs.Document.{Doc}
use Rattle.rf_base_document.specs.Graph.{unfolded}
use Rattle.rf_base_document.proofs.Graph.{unfolded-node, unfolded_past}
use Rattle.rf_outline.specs.Documents.{IsOpened}
use Rattle.rf_outline.specs.Outlined.{seen}
use Rattle.rf_outline.proofs.outlined.OutlinedDocuments.open.Goals as goal

pub returns-then-node-len : goal.returns-then-node-len
returns-then-node-len c =
    let graph = c.args.self.now.graph.now in
    subst (λ (d : Doc). IsOpened (seen graph c.args.self.now.known.now).document d c.opened.result)
    (sym (unfolded-node graph c.args.node.0 _ c.node.ensures.is_graph c.node.ensures.told)) (c.opened.ensures (unfolded graph))

pub returns-else-node-len : goal.returns-else-node-len
unfolding chars
returns-else-node-len c =
    unfolded_past c.args.self.now.graph.now c.args.node.0 (grind (arith, nat_tests, c.if-node-len.false, c.len.ensures.count))
