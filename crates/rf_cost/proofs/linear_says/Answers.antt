-- The law is the lemma.
use Rattle.rf_cost.proofs.Reading.{linear_says}
use Rattle.rf_cost.proofs.linear_says.Goals as goal

pub returns : goal.returns
returns c = linear_says
