-- The law is the lemma.
use Rattle.rf_base_optimum.proofs.Pruning.{measure_of_resolution}
use Rattle.rf_base_optimum.proofs.measures_are_of_resolutions.Goals as goal

pub returns : goal.returns
returns g c =
    λ costs w d column indentation m laws width document core member. measure_of_resolution costs laws w d column
    indentation m width document member
