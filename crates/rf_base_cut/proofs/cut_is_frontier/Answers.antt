-- The law is the lemma.
use Rattle.rf_base_cut.proofs.Cutting.{cut_frontier, cut_values}
use Rattle.rf_base_cut.proofs.cut_is_frontier.Goals as goal

pub returns : goal.returns
returns g c = λ costs x list frontier values. (cut_frontier costs x list frontier, cut_values costs x list values)
