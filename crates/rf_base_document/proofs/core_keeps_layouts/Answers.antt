-- The law is the lemma.
use Rattle.rf_base_document.proofs.Simple.{keeps_layouts}
use Rattle.rf_base_document.proofs.core_keeps_layouts.Goals as goal

pub returns : goal.returns
returns c = keeps_layouts
