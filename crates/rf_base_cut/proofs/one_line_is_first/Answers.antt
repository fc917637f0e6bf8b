-- The law is the lemma.
use Rattle.rf_base_cut.proofs.Lines.{one_line_first}
use Rattle.rf_base_cut.proofs.one_line_is_first.Goals as goal

pub returns : goal.returns
returns g c =
    λ costs w free d column indentation len how laws least. one_line_first costs laws least w free d column indentation
    len how
