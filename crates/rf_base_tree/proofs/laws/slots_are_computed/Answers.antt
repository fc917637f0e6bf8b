-- The law is the lemma, at trees.
use Rattle.rf_base_tree.proofs.Cuts.{AreSlots-computed}
use Rattle.rf_base_tree.proofs.laws.slots_are_computed.Goals as goal

pub returns : goal.returns
returns c = λ in_list entries slots. AreSlots-computed in_list entries slots
