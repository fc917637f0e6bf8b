-- The piece that was written stands behind the pieces before it.
use Rattle.std.proofs.Common.{rules}
use Rattle.rf_edges.specs.Counts.{Lasts-trans}
use Rattle.rf_edges.proofs.Given.{Appends-more}
use Rattle.rf_edges.proofs.writing.write_whole.Goals as goal

pub pieces-preserved : goal.pieces-preserved
pieces-preserved g c = record {
  within = search rules;
  so_far = Appends-more _ _ _ _ _ _ c.pieces.invariant.so_far c.in_ok-done.ensures.bytes;
  lasting = Lasts-trans _ _ _ c.pieces.invariant.lasting c.write.ensures.lasting;
}
