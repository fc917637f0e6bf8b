-- The law is the lemma.
use Rattle.rf_base_cut.proofs.Halves.{after_few}
use Rattle.rf_base_cut.proofs.documents.after_in_few.Goals as goal

pub returns : goal.returns
returns g c = λ costs w d flat m indentation x. after_few costs w d flat m indentation x
