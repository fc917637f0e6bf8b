-- The law is the lemma.
use Rattle.rf_frontier.proofs.Ways.{keeps_then}
use Rattle.rf_frontier.proofs.laws.ways_go_on.Goals as goal

pub returns : goal.returns
returns c = keeps_then
