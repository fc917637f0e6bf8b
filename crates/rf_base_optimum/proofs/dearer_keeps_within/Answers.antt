-- The law is the lemma.
use Rattle.rf_base_optimum.proofs.Dearer.{dearer_keeps}
use Rattle.rf_base_optimum.proofs.dearer_keeps_within.Goals as goal

pub returns : goal.returns
returns g c =
    λ costs w d dearer column indentation flat choices whole laws. dearer_keeps costs laws w d dearer column indentation
    flat choices whole
