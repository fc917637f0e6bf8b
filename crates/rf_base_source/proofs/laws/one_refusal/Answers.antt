-- The law is the lemma.
use Rattle.rf_base_source.proofs.OneAnswer.{Refused-one}
use Rattle.rf_base_source.proofs.laws.one_refusal.Goals as goal

pub returns : goal.returns
returns c = Refused-one
