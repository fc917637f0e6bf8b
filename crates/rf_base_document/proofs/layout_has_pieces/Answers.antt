-- The law is the lemma.
use Rattle.rf_base_document.proofs.Running.{layout_pieces}
use Rattle.rf_base_document.proofs.layout_has_pieces.Goals as goal

pub returns : goal.returns
returns c = layout_pieces
