-- The law is the lemma.
use Rattle.rf_base_file.proofs.OneAnswer.{formatted_or_too_long}
use Rattle.rf_base_file.proofs.laws.formatted_or_too_long.Goals as goal

pub returns : goal.returns
returns g c = formatted_or_too_long
