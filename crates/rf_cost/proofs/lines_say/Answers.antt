-- The law is the lemma.
use Rattle.rf_cost.proofs.Reading.{lines_say}
use Rattle.rf_cost.proofs.lines_say.Goals as goal

pub returns : goal.returns
returns c = lines_say
