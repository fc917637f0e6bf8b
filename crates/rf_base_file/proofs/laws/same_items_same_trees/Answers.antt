-- The law is the lemma.
use Rattle.rf_base_file.proofs.SameTrees.{Treed-same}
use Rattle.rf_base_file.proofs.laws.same_items_same_trees.Goals as goal

pub returns : goal.returns
returns c = Treed-same
