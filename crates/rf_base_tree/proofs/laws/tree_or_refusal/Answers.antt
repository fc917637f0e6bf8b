-- The law is the lemma.
use Rattle.rf_base_tree.proofs.OneTree.{Treed-apart}
use Rattle.rf_base_tree.proofs.laws.tree_or_refusal.Goals as goal

pub returns : goal.returns
returns c = Treed-apart
