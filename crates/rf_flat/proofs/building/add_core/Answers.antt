-- A node that is added fits the core.
use Rattle.rf_flat.proofs.Growing.{added_is_graph, newer_fits}
use Rattle.rf_flat.proofs.building.add_core.Goals as goal

pub returns-in_ok-push-in-Newer-clause-is_graph : goal.returns-in_ok-push-in-Newer-clause-is_graph
returns-in_ok-push-in-Newer-clause-is_graph c =
    added_is_graph _ _ _ c.in_ok-push-in-Newer.ensures.items c.requires.is_graph
    (newer_fits _ _ _ c.simple_node.result c.in-Newer.node c.deref.ensures.value c.in-Newer.is c.simple_node.ensures)
