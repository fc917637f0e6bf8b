-- A node is told as it is unfolded.
use Rattle.std.proofs.Common.{◌∙◌, arith}
use Rattle.std.proofs.lemmas.Bool.Decides.{nat_tests}
use Rattle.std.specs.Str.{chars}
use Rattle.rf_base_document.specs.Graph.{unfolded}
use Rattle.rf_base_document.proofs.Graph.{unfolded-node, unfolded_past, unfolded_document}
use Rattle.rf_walk.proofs.kinds.GraphNodes.kind.Goals as goal

pub returns-then-node-len-clause-told : goal.returns-then-node-len-clause-told
returns-then-node-len-clause-told c =
    unfolded-node c.args.self.now c.args.node.0 _ c.node.ensures.is_graph c.node.ensures.told ∙ c.kind_in_graph.ensures (unfolded c.args.self.now)

pub returns-then-node-len-clause-limits : goal.returns-then-node-len-clause-limits
returns-then-node-len-clause-limits c = unfolded_document c.args.self.now c.args.node.0 c.len.ensures.is_graph

pub returns-else-node-len-clause-told : goal.returns-else-node-len-clause-told
unfolding chars
returns-else-node-len-clause-told c = unfolded_past c.args.self.now c.args.node.0 (grind (arith, nat_tests, c.if-node-len.false, c.len.ensures.count))

pub returns-else-node-len-clause-limits : goal.returns-else-node-len-clause-limits
returns-else-node-len-clause-limits c = unfolded_document c.args.self.now c.args.node.0 c.len.ensures.is_graph
