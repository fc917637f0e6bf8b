-- The law is the lemma.
use Rattle.rf_base_source.proofs.OneAnswer.{each_answered}
use Rattle.rf_base_source.proofs.laws.each_is_answered.Goals as goal

pub returns : goal.returns
returns c = each_answered
