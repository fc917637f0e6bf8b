-- The law is the lemma.
use Rattle.rf_base_cut.proofs.Pruned.{pareto_before}
use Rattle.rf_frontier.proofs.laws.pareto_goes_on.Goals as goal

pub returns : goal.returns
returns g c = λ costs list more laws. pareto_before costs laws list more
