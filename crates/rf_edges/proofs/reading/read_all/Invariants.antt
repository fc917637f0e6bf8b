-- What was taken stands in `bytes`, within the limit, and no count fell.
use Rattle.std.proofs.Common.{◌-◌, ◌<◌, ◌≤◌, vec_len}
use Rattle.std.specs.Io.KnownBytes.{Consumes}
use Rattle.rf_edges.specs.Faults.{Lasts}
use Rattle.rf_edges.proofs.reading.read_all.Given as goal

abbrev pub invariant-reads : goal.invariant-reads
invariant-reads g l = record {
  room : 0 < vec_len l.block;
  within : vec_len l.bytes ≤ l.limit;
  so_far : Consumes (g.S.Source.left l.initial.source) (g.S.Source.left l.source) l.bytes.items;
  lasting : Lasts (g.S.Source.faults l.initial.source) (g.S.Source.faults l.source);
}

abbrev pub decreases-reads : goal.decreases-reads
decreases-reads g l = l.limit - vec_len l.bytes
