-- The law is the lemma.
use Rattle.rf_base_cut.proofs.DocumentCuts.{after_concat}
use Rattle.rf_base_cut.proofs.documents.after_in_concat.Goals as goal

pub returns : goal.returns
returns g c = λ costs w free a b flat m indentation x y laws. after_concat costs laws w free a b flat m indentation x y
