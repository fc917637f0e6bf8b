-- The law is the lemma.
use Rattle.rf_base_cut.proofs.Lines.{after_one_line}
use Rattle.rf_base_cut.proofs.after_one_line.Goals as goal

pub returns : goal.returns
returns g c =
    λ costs w free d m indentation x len how laws least. after_one_line costs laws least w free d m indentation x len
    how
