-- The law is the lemma.
use Rattle.rf_base_tree.proofs.OneTree.{treed_or_refused}
use Rattle.rf_base_tree.proofs.laws.each_is_treed.Goals as goal

pub returns : goal.returns
returns c = treed_or_refused
