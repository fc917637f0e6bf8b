-- The law is the lemma.
use Rattle.rf_base_file.proofs.OneAnswer.{formatted_one}
use Rattle.rf_base_file.proofs.laws.one_formatted.Goals as goal

pub returns : goal.returns
returns g c = formatted_one
