-- The law is the lemma.
use Rattle.rf_base_cut.proofs.DocumentSteps.{after_frontier}
use Rattle.rf_base_cut.proofs.documents.after_in_is_frontier.Goals as goal

pub returns : goal.returns
returns g c = λ costs w d flat m indentation x laws. after_frontier costs laws w d flat m indentation x
