-- The law is the lemma.
use Rattle.rf_base_optimum.proofs.Reflecting.{laid_pieces}
use Rattle.rf_base_optimum.proofs.most_pieces_are_most.Goals as goal

pub returns : goal.returns
returns c = laid_pieces
