-- The law is the lemma.
use Rattle.rf_base_optimum.proofs.Dearer.{laid_one}
use Rattle.rf_base_lines.proofs.laid_out_once.Goals as goal

pub returns : goal.returns
returns c = laid_one
