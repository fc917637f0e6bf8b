-- The law is the lemma.
use Rattle.rf_base_cut.proofs.DocumentLines.{line_of_sequence}
use Rattle.rf_base_cut.proofs.documents.line_of_sequence.Goals as goal

pub returns : goal.returns
returns c = line_of_sequence
