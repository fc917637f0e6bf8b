-- The nodes of the cells so far, in order.
use Rattle.std.proofs.Common.{◌≡◌, ◌≤◌, ◌+◌, length, take}
use Rattle.rf_doc.specs.Nodes.{Extends}
use Rattle.rf_rows.specs.Cells.{cell_at}
use Rattle.rf_rows.specs.Sizes.{cells_size}
use Rattle.rf_row_graph.specs.Parts.{AreDone}
use Rattle.rf_row_graph.proofs.adding.add_cells.Given as goal

abbrev pub invariant-loop-k : goal.invariant-loop-k
invariant-loop-k l =
    record {
      done : AreDone l.graph (cell_at l.rows.pieces.items l.rows.cells.items) l.done.items;
      count : length l.done.items ≡ l._k;
      older : Extends l.fn.graph l.graph;
      few : length l.graph ≤ length l.fn.graph + cells_size (take l._k l.rows.cells.items);
    }
