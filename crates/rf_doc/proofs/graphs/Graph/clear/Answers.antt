-- No node is a graph.
use Rattle.rf_doc.proofs.Seen.{no_node_is_graph, no_node_stands}
use Rattle.rf_doc.proofs.graphs.Graph.clear.Goals as goal

pub invariant_of-self : goal.invariant_of-self
invariant_of-self c = (no_node_is_graph _ _ c.clear.ensures.items, no_node_stands _ _ c.clear.ensures.items)
