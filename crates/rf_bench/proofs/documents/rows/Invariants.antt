-- The rows so far are a node of the graph.
use Rattle.std.proofs.Common.{◌<◌, length}
use Rattle.rf_bench.proofs.documents.rows.Given as goal

abbrev pub invariant-loop-i : goal.invariant-loop-i
invariant-loop-i l = l.all.0 < length l.graph
