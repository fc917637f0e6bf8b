-- The law is the lemma.
use Rattle.rf_base_cut.proofs.DocumentSteps.{after_newline}
use Rattle.rf_base_cut.proofs.documents.after_in_newline.Goals as goal

pub returns : goal.returns
returns g c = λ costs w m indentation x. after_newline costs w m indentation x
