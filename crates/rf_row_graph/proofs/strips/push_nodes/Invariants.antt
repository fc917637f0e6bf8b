-- The nodes of the pieces so far stand behind the others.
use Rattle.std.proofs.Common.{◌≡◌, ◌++◌, map, take}
use Rattle.rf_doc.specs.Nodes.{numbers}
use Rattle.rf_row_graph.specs.Parts.{piece_node}
use Rattle.rf_row_graph.proofs.strips.push_nodes.Given as goal

abbrev pub invariant-loop-piece : goal.invariant-loop-piece
invariant-loop-piece l =
    record { put : numbers l.nodes.items ≡ numbers l.fn.nodes.items ++ map (piece_node l.shared l.fill) (take l.piece-index l.pieces) }
