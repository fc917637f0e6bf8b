-- The pieces before were written, and a prefix of the one that failed.
use Rattle.std.proofs.Common.{inr, sym, subst}
use Rattle.std.specs.Io.KnownBytes.{Appends}
use Rattle.std.proofs.KnownBytes.{Appends-trans}
use Rattle.rf_edges.specs.Counts.{Lasts-trans, Rose-after}
use Rattle.rf_top.proofs.Pieces.{joined_more, joined_short}
use Rattle.rf_top.proofs.telling.tell.Goals as goal

pub returns-in-Err : goal.returns-in-Err
returns-in-Err g c =
    inr (
      Rose-after _ _ _ c.loop-piece.invariant.lasting c.in-Err.ensures.cause,
      joined_short _ _ _ c.args.pieces.now c.loop-piece.piece-index _ c.loop-piece-test.true c.loop-piece.invariant.so_far c.in-Err.ensures.prefix,
    )

pub loop-piece-preserved : goal.loop-piece-preserved
loop-piece-preserved g c = record {
  so_far = subst (Appends _ _) (sym (joined_more c.args.pieces.now c.loop-piece.piece-index _ c.loop-piece-test.true))
      (Appends-trans _ _ _ _ _ c.loop-piece.invariant.so_far c.in-Ok.ensures.ok);
  lasting = Lasts-trans _ _ _ c.loop-piece.invariant.lasting c.write_whole.ensures.lasting;
}
