-- The law is the lemma.
use Rattle.rf_base_optimum.proofs.Pruning.{dominated_by_frontier}
use Rattle.rf_base_optimum.proofs.resolutions_are_dominated.Goals as goal

pub returns : goal.returns
returns g c =
    λ costs w d column indentation choices whole laws. dominated_by_frontier costs laws w d column indentation choices
    whole
