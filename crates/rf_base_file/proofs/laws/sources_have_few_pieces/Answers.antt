-- The law is the lemma.
use Rattle.rf_base_file.proofs.FewPieces.{few_pieces}
use Rattle.rf_base_file.proofs.laws.sources_have_few_pieces.Goals as goal

pub returns : goal.returns
returns c = few_pieces
