-- Ways that were there stay, so both frontiers belong to them still.
use Rattle.rf_frontier.proofs.Behind.{belong_keeps}
use Rattle.rf_bench.proofs.frontiers.all_rounds.Goals as goal

pub loop-round-preserved : goal.loop-round-preserved
loop-round-preserved g c = record {
  even = belong_keeps c.loop-round.hows c.shifted.new.hows c.args.even.now c.shifted.ensures.older c.loop-round.invariant.even;
  odd = belong_keeps c.loop-round.hows c.shifted.new.hows c.args.odd.now c.shifted.ensures.older c.loop-round.invariant.odd;
}
