-- The law is the lemma.
use Rattle.rf_base_cut.proofs.CoreLines.{after_line}
use Rattle.rf_base_cut.proofs.documents.after_in_one_line.Goals as goal

pub returns : goal.returns
returns g c =
    λ costs w free d flat m indentation x len how laws least. after_line costs laws least w free d flat m indentation x
    len how
