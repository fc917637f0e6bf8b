-- The parts of a graph's nodes come first.
use Rattle.rf_base_document.proofs.Graph.{parts_come_first}
use Rattle.rf_flat.proofs.CoreNodes.{told_seen, seen_is_graph}
use Rattle.rf_flat.proofs.cores.Core.node.Goals as goal

pub returns-clause-parts_first : goal.returns-clause-parts_first
returns-clause-parts_first c =
    parts_come_first _ c.args.n _ (seen_is_graph _ c.self.inside.root _ c.self.view_is c.self.invariant)
    (told_seen c.self.inside.nodes.items c.self.inside.root c.args.n c.args.self.now c.index.result.now c.self.view_is c.index.ensures c.requires)
