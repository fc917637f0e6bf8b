-- The law is the lemma.
use Rattle.rf_base_file.proofs.OneLayout.{one_layout}
use Rattle.rf_base_file.proofs.laws.one_layout.Goals as goal

pub returns : goal.returns
returns g c = one_layout
