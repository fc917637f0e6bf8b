-- No node is a graph.
use Rattle.rf_doc.proofs.Seen.{no_node_is_graph, no_node_stands}
use Rattle.rf_doc.proofs.graphs.Graph.new.Goals as goal

pub invariant_of-result : goal.invariant_of-result
invariant_of-result c = (no_node_is_graph _ _ c.new.ensures.items, no_node_stands _ _ c.new.ensures.items)
