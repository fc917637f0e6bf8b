-- A node that is there has the number of what it is unfolded to, and no other one has a number.
use Rattle.std.proofs.Common.{sym, ap, ◌∙◌, arith}
use Rattle.std.proofs.lemmas.Bool.Decides.{nat_tests}
use Rattle.rf_base_document.specs.Graph.{unfolded}
use Rattle.rf_base_document.proofs.Graph.{unfolded-node, unfolded_past}
use Rattle.rf_outline.specs.Outlined.{number_of}
use Rattle.rf_outline.proofs.outlined.OutlinedDocuments.number.Goals as goal

pub returns-then-node-len : goal.returns-then-node-len
returns-then-node-len c =
    let graph = c.args.self.now.graph.now in
    c.number_of.ensures (unfolded graph)
    ∙ sym (ap (number_of c.args.node.0) (unfolded-node graph c.args.node.0 _ c.node.ensures.is_graph c.node.ensures.told))

pub returns-else-node-len : goal.returns-else-node-len
returns-else-node-len c =
    sym (ap (number_of c.args.node.0) (unfolded_past c.args.self.now.graph.now c.args.node.0 (grind (arith, nat_tests, c.if-node-len.false, c.len.ensures.count))))
