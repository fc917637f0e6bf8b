-- The law is the lemma.
use Rattle.rf_base_cut.proofs.Halves.{after_sequence}
use Rattle.rf_base_cut.proofs.documents.after_in_sequence.Goals as goal

pub returns : goal.returns
returns g c =
    λ costs w free parts flat m indentation x y laws. after_sequence costs laws w free parts flat m indentation x y
