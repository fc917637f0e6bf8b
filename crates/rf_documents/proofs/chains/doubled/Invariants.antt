-- The last node is one of the graph.
use Rattle.std.proofs.Common.{◌<◌, length}
use Rattle.rf_documents.proofs.chains.doubled.Given as goal

abbrev pub invariant-loop-i : goal.invariant-loop-i
invariant-loop-i l = l.all.0 < length l.graph
