-- Each turn merges one more measure; ways that were there stay.
use Rattle.rf_frontier.proofs.Ways.{keeps_then}
use Rattle.rf_frontier.proofs.Behind.{belong_keeps}
use Rattle.rf_bench.proofs.frontiers.comb.Goals as goal

pub returns-in_err-next-clause-older : goal.returns-in_err-next-clause-older
returns-in_err-next-clause-older g c = keeps_then c.args.hows.now c.loop-k.hows c.one-in-loop-k.new.hows c.loop-k.invariant.older c.one-in-loop-k.ensures.older

pub returns-in_err-f-2-clause-older : goal.returns-in_err-f-2-clause-older
returns-in_err-f-2-clause-older g c = keeps_then c.args.hows.now c.loop-k.hows c.one-in-loop-k.new.hows c.loop-k.invariant.older c.one-in-loop-k.ensures.older

pub loop-k-preserved : goal.loop-k-preserved
loop-k-preserved g c = record {
  ordered = c.in_ok-f-2.ensures.ordered;
  values = c.in_ok-f-2.ensures.values;
  belongs = c.in_ok-f-2.ensures.belongs c.one-in-loop-k.new.hows
      (belong_keeps c.loop-k.hows c.one-in-loop-k.new.hows c.loop-k.f c.one-in-loop-k.ensures.older c.loop-k.invariant.belongs) c.in_ok-next.ensures.belongs;
  older = keeps_then c.args.hows.now c.loop-k.hows c.one-in-loop-k.new.hows c.loop-k.invariant.older c.one-in-loop-k.ensures.older;
}
