-- The law is the lemma.
use Rattle.rf_top.proofs.Again.{layouts_give_themselves}
use Rattle.rf_top.proofs.layouts_give_themselves.Goals as goal

pub returns : goal.returns
returns c = layouts_give_themselves
