-- The law is the lemma.
use Rattle.rf_base_tree.proofs.OneTree.{TreeRefused-one}
use Rattle.rf_base_tree.proofs.laws.one_tree_refusal.Goals as goal

pub returns : goal.returns
returns c = TreeRefused-one
