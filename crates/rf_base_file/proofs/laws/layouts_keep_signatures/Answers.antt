-- The law is the lemma.
use Rattle.rf_base_file.proofs.Signatures.{layouts_drawn}
use Rattle.rf_base_file.proofs.laws.layouts_keep_signatures.Goals as goal

pub returns : goal.returns
returns c = layouts_drawn
