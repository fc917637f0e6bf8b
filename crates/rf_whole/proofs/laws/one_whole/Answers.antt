-- The law is the lemma.
use Rattle.rf_whole.proofs.OneWhole.{one_whole}
use Rattle.rf_whole.proofs.laws.one_whole.Goals as goal

pub returns : goal.returns
returns g c = one_whole
