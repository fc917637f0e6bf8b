-- The pieces before were written.
use Rattle.std.proofs.Common.{take}
use Rattle.std.specs.Io.KnownBytes.{Appends}
use Rattle.rf_edges.specs.Faults.{Lasts}
use Rattle.rf_top.proofs.Pieces.{joined}
use Rattle.rf_top.proofs.telling.tell.Given as goal

abbrev pub invariant-loop-piece : goal.invariant-loop-piece
invariant-loop-piece g l = record {
  so_far : Appends (g.E.Sink.written l.initial.err) (g.E.Sink.written l.err) (joined (take l.piece-index l.pieces));
  lasting : Lasts (g.E.Sink.faults l.initial.err) (g.E.Sink.faults l.err);
}
