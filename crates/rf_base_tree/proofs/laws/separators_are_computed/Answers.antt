-- The law is the lemma.
use Rattle.rf_base_tree.proofs.Separating.{Separates-computed}
use Rattle.rf_base_tree.proofs.laws.separators_are_computed.Goals as goal

pub returns : goal.returns
returns c = Separates-computed
