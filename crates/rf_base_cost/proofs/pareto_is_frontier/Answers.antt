-- The law is the lemma.
use Rattle.rf_base_cost.proofs.Pareto.{pareto_is_frontier, pareto_values}
use Rattle.rf_base_cost.proofs.pareto_is_frontier.Goals as goal

pub returns : goal.returns
returns g c = λ costs list laws values. (pareto_is_frontier costs laws list values, pareto_values costs list values)
