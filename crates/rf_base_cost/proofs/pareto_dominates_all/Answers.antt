-- The law is the lemma.
use Rattle.rf_base_cost.proofs.Pareto.{pareto_dominates_all}
use Rattle.rf_base_cost.proofs.pareto_dominates_all.Goals as goal

pub returns : goal.returns
returns g c = λ costs list m laws values member. pareto_dominates_all costs laws list m values member
