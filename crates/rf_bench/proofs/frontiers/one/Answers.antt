-- Ways that were there stay, at each of both calls.
use Rattle.rf_frontier.proofs.Ways.{keeps_then}
use Rattle.rf_bench.proofs.frontiers.one.Goals as goal

pub returns-clause-older : goal.returns-clause-older
returns-clause-older c = keeps_then c.args.hows.now c.leaf.new.hows c.mark.new.hows c.leaf.ensures.older c.mark.ensures.older
