-- The law is the lemma.
use Rattle.rf_base_cut.proofs.Indifferent.{after_concat}
use Rattle.rf_base_cut.proofs.after_concat.Goals as goal

pub returns : goal.returns
returns g c = λ costs w free a b m indentation x y laws. after_concat costs laws w free a b m indentation x y
