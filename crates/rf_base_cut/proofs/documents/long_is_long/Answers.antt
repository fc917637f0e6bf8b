-- The law is the lemma.
use Rattle.rf_base_cut.proofs.LaidLines.{long_is_long}
use Rattle.rf_base_cut.proofs.documents.long_is_long.Goals as goal

pub returns : goal.returns
returns c = long_is_long
