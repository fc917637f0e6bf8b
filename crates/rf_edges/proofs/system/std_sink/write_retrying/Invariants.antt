-- Nothing was written so far, and no count fell.
use Rattle.std.specs.Io.KnownBytes.{Keeps}
use Rattle.rf_edges.specs.Faults.{Lasts}
use Rattle.rf_edges.proofs.system.std_sink.write_retrying.Given as goal

abbrev pub invariant-loop : goal.invariant-loop
invariant-loop g l = record {
  kept : Keeps (g.W.Write.contents l.initial.writer) (g.W.Write.contents l.writer);
  lasting : Lasts l.initial.faults l.faults;
}
