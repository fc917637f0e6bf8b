-- The law is two lemmas.
use Rattle.rf_frontier.proofs.Behind.{belong_keeps, chosen_keeps}
use Rattle.rf_frontier.proofs.laws.frontiers_go_on.Goals as goal

pub returns : goal.returns
returns g c = λ old new f kept belongs. (belong_keeps old new f kept belongs, chosen_keeps old new f kept belongs)
