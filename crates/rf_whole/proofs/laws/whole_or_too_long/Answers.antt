-- The law is the lemma.
use Rattle.rf_whole.proofs.OneWhole.{whole_or_too_long}
use Rattle.rf_whole.proofs.laws.whole_or_too_long.Goals as goal

pub returns : goal.returns
returns g c = whole_or_too_long
