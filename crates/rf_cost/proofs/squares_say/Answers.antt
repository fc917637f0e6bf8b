-- The law is the lemma.
use Rattle.rf_cost.proofs.Reading.{squares_say}
use Rattle.rf_cost.proofs.squares_say.Goals as goal

pub returns : goal.returns
returns c = squares_say
