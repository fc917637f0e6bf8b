-- The law is the lemma.
use Rattle.rf_frontier.proofs.Ways.{keeps_same}
use Rattle.rf_frontier.proofs.laws.ways_keep_themselves.Goals as goal

pub returns : goal.returns
returns c = keeps_same
