-- The law is the lemma.
use Rattle.rf_base_document.proofs.Graph.{StandsFor-some}
use Rattle.rf_base_document.proofs.stands_for_some.Goals as goal

pub returns : goal.returns
returns c = StandsFor-some
