-- The list is cut where the loop ends.
use Rattle.std.proofs.Common.{◌<◌, ◌≤◌, ◌-◌, length, refl, sym, subst, arith}
use Rattle.std.proofs.lemmas.Option.{slice_get_read}
use Rattle.rf_frontier.proofs.Cuts.{cut_from_end, whole_from_end, few_from_end}
use Rattle.rf_frontier.proofs.kept.stay_from_end.Goals as goal

pub loop-stay-preserved : goal.loop-stay-preserved
loop-stay-preserved g c =
    record {
      near = omega (arith, c.loop-stay.invariant.near);
      so_far = cut_from_end c.args.x (c.loop-stay.stay - 2) c.loop-stay.stay (c.loop-stay.stay - 1) c.args.measures.now c.index-measures-stay.result (omega (arith, c.loop-stay-test.true)) (omega (arith, c.loop-stay-test.true))
          (slice_get_read c.args.measures.now (length c.args.measures.now) (c.loop-stay.stay - 2) c.index-measures-stay.result refl (omega (arith, c.loop-stay-test.true, c.loop-stay.invariant.near)) c.index-measures-stay.is)
          (subst (λ m. m.last ≤ c.args.x) (sym c.index-measures-stay.is) c.if-measures-stay.true) c.loop-stay.invariant.so_far;
    }

pub returns-else-measures-stay-clause-cut : goal.returns-else-measures-stay-clause-cut
returns-else-measures-stay-clause-cut g c =
    whole_from_end c.requires.0 c.args.x (c.loop-stay.stay - 2) c.loop-stay.stay c.args.measures.now c.index-measures-stay.result (omega (arith, c.loop-stay-test.true)) c.requires.1
    (slice_get_read c.args.measures.now (length c.args.measures.now) (c.loop-stay.stay - 2) c.index-measures-stay.result refl (omega (arith, c.loop-stay-test.true, c.loop-stay.invariant.near)) c.index-measures-stay.is)
    (subst (λ m. c.args.x < m.last) (sym c.index-measures-stay.is) c.if-measures-stay.false) c.loop-stay.invariant.so_far

pub returns-after-loop-stay-clause-cut : goal.returns-after-loop-stay-clause-cut
returns-after-loop-stay-clause-cut g c = few_from_end c.args.x c.loop-stay.stay c.args.measures.now (omega (arith, c.loop-stay-test.false)) c.loop-stay.invariant.so_far
