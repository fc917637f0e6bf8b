-- The law is the lemma.
use Rattle.rf_base_cut.proofs.DocumentSteps.{after_hard}
use Rattle.rf_base_cut.proofs.documents.after_in_hard.Goals as goal

pub returns : goal.returns
returns g c = λ costs w m indentation x. after_hard costs w m indentation x
