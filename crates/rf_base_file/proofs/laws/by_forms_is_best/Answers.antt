-- The law is the lemma.
use Rattle.rf_base_file.proofs.FormByForm.{by_forms_best}
use Rattle.rf_base_file.proofs.laws.by_forms_is_best.Goals as goal

pub returns : goal.returns
returns g c = by_forms_best
