-- The law is the lemma.
use Rattle.rf_base_cost.proofs.Reflected.{reflects_all}
use Rattle.rf_base_cost.proofs.reflecting_reflects_all.Goals as goal

pub returns : goal.returns
returns g c = reflects_all
