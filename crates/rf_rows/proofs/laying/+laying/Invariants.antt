-- A cell is made of pieces, and of cells that stand before it.
use Rattle.std.proofs.Common.{◌+◌, ◌*◌, ◌-◌, ◌≤◌}
use Rattle.std.specs.List.{slice_range}
use Rattle.rf_rows.specs.Laid.{laid_pieces}
use Rattle.rf_rows.specs.Laying.{frames_of}
use Rattle.rf_rows.proofs.Frames.{GoesOn, depth_of}
use Rattle.rf_rows.proofs.laying.+laying.Given as goal

abbrev pub decreases-lay_cell : goal.decreases-lay_cell
decreases-lay_cell g l = 16 * l.k + 15

abbrev pub decreases-lay_one_of : goal.decreases-lay_one_of
decreases-lay_one_of g l = 16 * l.k + 14

abbrev pub decreases-lay_layout : goal.decreases-lay_layout
decreases-lay_layout g l = 16 * l.k + 13

abbrev pub decreases-lay_row : goal.decreases-lay_row
decreases-lay_row g l = 16 * l.k + (3 * depth_of l.row + 3)

abbrev pub decreases-lay_row_within : goal.decreases-lay_row_within
decreases-lay_row_within g l = 16 * l.k + (3 * depth_of l.row + 4)

abbrev pub decreases-lay_inner : goal.decreases-lay_inner
decreases-lay_inner g l = 16 * l.k + (3 * depth_of l._row + 2)

abbrev pub decreases-lay_pieces : goal.decreases-lay_pieces
decreases-lay_pieces g l = 16 * l.k + 2

abbrev pub decreases-lay_some : goal.decreases-lay_some
decreases-lay_some g l = 16 * l.k + 1

abbrev pub decreases-lay_piece : goal.decreases-lay_piece
decreases-lay_piece g l = 16 * l._k + 0

-- what is left of the pieces is laid out behind those that were
abbrev pub invariant-lay_some-loop-at : goal.invariant-lay_some-loop-at
invariant-lay_some-loop-at g l =
    record {
      order : l.at ≤ l.to;
      laid : GoesOn g.P.Paper.holds l.fn.paper l.paper (frames_of l.spot (slice_range (laid_pieces l.laid l.cell l.fill) l.from l.to)) l.choices
          (λ o. o) (frames_of l.spot (slice_range (laid_pieces l.laid l.cell l.fill) l.at l.to)) l.left;
    }

abbrev pub decreases-lay_some-loop-at : goal.decreases-lay_some-loop-at
decreases-lay_some-loop-at g l = l.to - l.at
