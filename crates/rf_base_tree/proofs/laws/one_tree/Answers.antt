-- The law is the lemma.
use Rattle.rf_base_tree.proofs.OneTree.{Treed-one}
use Rattle.rf_base_tree.proofs.laws.one_tree.Goals as goal

pub returns : goal.returns
returns c = Treed-one
