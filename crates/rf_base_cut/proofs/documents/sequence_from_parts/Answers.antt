-- The law is the lemma.
use Rattle.rf_base_cut.proofs.Halves.{sequence_from_parts}
use Rattle.rf_base_cut.proofs.documents.sequence_from_parts.Goals as goal

pub returns : goal.returns
returns c = sequence_from_parts
