-- The law is the lemma.
use Rattle.rf_base_cut.proofs.Roots.{first_in_chosen}
use Rattle.rf_base_cut.proofs.documents.first_in_is_chosen.Goals as goal

pub returns : goal.returns
returns g c =
    λ costs w d s flat column indentation x m rest laws. first_in_chosen costs laws w d s flat column indentation x m
    rest
