-- Each half has fewer parts.
use Rattle.std.proofs.Common.{length}
use Rattle.rf_doc.proofs.graphs.Graph.+seq_halves.Given as goal

abbrev pub decreases-seq_halves : goal.decreases-seq_halves
decreases-seq_halves l = length l.parts.now
