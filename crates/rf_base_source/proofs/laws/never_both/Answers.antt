-- The law is the lemma.
use Rattle.rf_base_source.proofs.OneAnswer.{Refused-apart}
use Rattle.rf_base_source.proofs.laws.never_both.Goals as goal

pub returns : goal.returns
returns c = Refused-apart
