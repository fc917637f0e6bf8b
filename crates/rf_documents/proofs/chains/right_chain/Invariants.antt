-- Both parts are nodes of the graph.
use Rattle.std.proofs.Common.{◌<◌, length}
use Rattle.rf_documents.proofs.chains.right_chain.Given as goal

abbrev pub invariant-loop-i : goal.invariant-loop-i
invariant-loop-i l = record {
  part : l.part.0 < length l.graph;
  all : l.all.0 < length l.graph;
}
