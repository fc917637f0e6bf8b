-- The bytes before `done` were written, and no count fell.
use Rattle.std.proofs.Common.{length, take, ◌-◌, ◌≤◌}
use Rattle.std.specs.Io.KnownBytes.{Appends}
use Rattle.rf_edges.specs.Faults.{Lasts}
use Rattle.rf_edges.proofs.writing.write_whole.Given as goal

abbrev pub invariant-pieces : goal.invariant-pieces
invariant-pieces g l = record {
  within : l.done ≤ length l.bytes;
  so_far : Appends (g.K.Sink.written l.initial.sink) (g.K.Sink.written l.sink) (take l.done l.bytes);
  lasting : Lasts (g.K.Sink.faults l.initial.sink) (g.K.Sink.faults l.sink);
}

abbrev pub decreases-pieces : goal.decreases-pieces
decreases-pieces g l = length l.bytes - l.done
