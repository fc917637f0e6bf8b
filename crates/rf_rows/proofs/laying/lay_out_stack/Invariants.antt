-- What is left of the stack is laid out behind what was.
use Rattle.std.proofs.Common.{length}
use Rattle.std.specs.List.{slice_range}
use Rattle.rf_rows.specs.Laying.{frames_of}
use Rattle.rf_rows.specs.Rows.{stacked}
use Rattle.rf_rows.proofs.Frames.{GoesOn}
use Rattle.rf_rows.proofs.laying.lay_out_stack.Given as goal

abbrev pub invariant-loop-piece : goal.invariant-loop-piece
invariant-loop-piece g l = record {
  laid : GoesOn g.P.Paper.holds l.fn.paper l.paper (frames_of l.spot (stacked l.laid.rows.now l.fill)) l.choices (λ o. o)
      (frames_of l.spot (slice_range (stacked l.laid.rows.now l.fill) l.piece-index (length l.laid.rows.now.stack.items))) l.choices;
}
