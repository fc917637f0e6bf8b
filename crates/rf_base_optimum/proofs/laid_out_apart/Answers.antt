-- The law is the lemma.
use Rattle.rf_base_optimum.proofs.LaidApart.{laid_apart}
use Rattle.rf_base_optimum.proofs.laid_out_apart.Goals as goal

pub returns : goal.returns
returns c = laid_apart
