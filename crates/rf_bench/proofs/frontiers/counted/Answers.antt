-- The first frontier belongs to the ways that there are after the second.
use Rattle.rf_frontier.proofs.Behind.{belong_keeps}
use Rattle.rf_bench.proofs.frontiers.counted.Goals as goal

pub all_rounds-requires-clause-even_belongs : goal.all_rounds-requires-clause-even_belongs
all_rounds-requires-clause-even_belongs g c =
    belong_keeps c.comb.new.hows c.comb-2.new.hows c.in_ok-even.even c.comb-2.ensures.older c.in_ok-even.ensures.belongs
