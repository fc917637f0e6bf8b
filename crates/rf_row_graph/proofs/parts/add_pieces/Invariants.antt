-- The nodes of the pieces so far, in order.
use Rattle.std.proofs.Common.{◌≡◌, ◌≤◌, ◌+◌, ℕ, length, take}
use Rattle.rf_base_document.specs.Document.{Doc}
use Rattle.rf_doc.specs.Nodes.{Extends}
use Rattle.rf_rows.specs.Cells.{filled_by}
use Rattle.rf_row_graph.specs.Parts.{PartsStand, AreDone}
use Rattle.rf_row_graph.proofs.parts.add_pieces.Given as goal

abbrev pub invariant-loop-piece : goal.invariant-loop-piece
invariant-loop-piece l =
    record {
      documents : (f : ℕ → Doc) → AreDone l.fn.graph f l.done → PartsStand l.graph l.shared l.nodes.items (filled_by f (take l.piece-index l.pieces));
      count : length l.nodes.items ≡ l.piece-index;
      older : Extends l.fn.graph l.graph;
      few : length l.graph ≤ length l.fn.graph + l.piece-index;
    }
