-- Nothing was read so far, and no count fell.
use Rattle.std.specs.Io.KnownBytes.{Keeps}
use Rattle.rf_edges.specs.Faults.{Lasts}
use Rattle.rf_edges.proofs.system.std_source.read_retrying.Given as goal

abbrev pub invariant-loop : goal.invariant-loop
invariant-loop g l = record {
  kept : Keeps (g.R.Read.remaining l.initial.reader) (g.R.Read.remaining l.reader);
  lasting : Lasts l.initial.faults l.faults;
}
