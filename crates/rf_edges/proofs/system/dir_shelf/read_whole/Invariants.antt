-- What was read stands in `into`, at most one byte past the limit, and no fault was counted away.
use Rattle.std.proofs.Common.{◌+◌, ◌-◌, ◌<◌, ◌≤◌, vec_len}
use Rattle.std.specs.Io.KnownBytes.{Consumes}
use Rattle.rf_edges.specs.Faults.{Lasts}
use Rattle.rf_edges.proofs.system.dir_shelf.read_whole.Given as goal

abbrev pub invariant-reads : goal.invariant-reads
invariant-reads g l = record {
  room : 0 < vec_len l.block;
  within : vec_len l.into ≤ l.limit + 1;
  so_far : Consumes (g.S.Source.left l.initial.source) (g.S.Source.left l.source) l.into.items;
  lasting : Lasts (g.S.Source.faults l.initial.source) (g.S.Source.faults l.source);
}

abbrev pub decreases-reads : goal.decreases-reads
decreases-reads g l = l.limit + 1 - vec_len l.into
