-- Rows stand in one another at most three deep.
use Rattle.std.proofs.Common.{◌+◌, ◌*◌}
use Rattle.rf_rows.proofs.Frames.{depth_of}
use Rattle.rf_row_graph.proofs.RowNodes.{inner_depth}
use Rattle.rf_row_graph.proofs.strips.+rows.Given as goal

abbrev pub decreases-add_row : goal.decreases-add_row
decreases-add_row l = 2 * depth_of l.row + 1

abbrev pub decreases-add_inner : goal.decreases-add_inner
decreases-add_inner l = inner_depth l.inner
