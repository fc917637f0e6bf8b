-- The law is the lemma.
use Rattle.rf_base_optimum.proofs.Dearer.{dearer_costs}
use Rattle.rf_base_optimum.proofs.dearer_costs_no_less.Goals as goal

pub returns : goal.returns
returns g c =
    λ costs w d dearer column indentation flat choices others whole other laws. dearer_costs costs laws w d dearer
    column indentation flat choices others whole other
