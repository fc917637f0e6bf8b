-- The law is the lemma.
use Rattle.rf_base_document.proofs.Simple.{where_layout}
use Rattle.rf_base_document.proofs.core_where_layout.Goals as goal

pub returns : goal.returns
returns c = where_layout
