-- The list is cut where the loop ends.
use Rattle.std.proofs.Common.{◌<◌, ◌≤◌, ◌+◌, length, refl, sym, subst, arith}
use Rattle.std.proofs.lemmas.Option.{slice_get_read}
use Rattle.rf_frontier.proofs.Cuts.{cut_here_next, cut_behind_next, cut_end}
use Rattle.rf_frontier.proofs.kept.stay.Goals as goal

pub returns-then-measures-at-clause-cut : goal.returns-then-measures-at-clause-cut
returns-then-measures-at-clause-cut g c =
    cut_here_next c.args.x c.loop-at.at (c.loop-at.at + 1) c.args.measures.now c.index-measures-at.result refl (slice_get_read c.args.measures.now (length c.args.measures.now) c.loop-at.at c.index-measures-at.result refl c.loop-at-test.true c.index-measures-at.is) (subst (λ m. m.last ≤ c.args.x) (sym c.index-measures-at.is) c.if-measures-at.true) c.loop-at.invariant.so_far

pub loop-at-preserved : goal.loop-at-preserved
loop-at-preserved g c =
    record {
      near = omega (arith, c.loop-at-test.true);
      so_far = cut_behind_next c.args.x c.loop-at.at (c.loop-at.at + 1) c.args.measures.now c.index-measures-at.result refl (slice_get_read c.args.measures.now (length c.args.measures.now) c.loop-at.at c.index-measures-at.result refl c.loop-at-test.true c.index-measures-at.is) (subst (λ m. c.args.x < m.last) (sym c.index-measures-at.is) c.if-measures-at.false) c.loop-at.invariant.so_far;
    }

pub returns-clause-cut : goal.returns-clause-cut
returns-clause-cut g c = cut_end c.args.x c.loop-at.at c.args.measures.now (omega (arith, c.loop-at-test.false)) c.loop-at.invariant.so_far
