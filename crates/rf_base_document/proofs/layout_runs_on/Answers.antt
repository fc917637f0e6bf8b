-- The law is the lemma.
use Rattle.rf_base_document.proofs.Running.{layout_runs}
use Rattle.rf_base_document.proofs.layout_runs_on.Goals as goal

pub returns : goal.returns
returns c = layout_runs
