-- The law is the lemma.
use Rattle.rf_base_optimum.proofs.Shift.{shift_keeps_within}
use Rattle.rf_base_optimum.proofs.shift_keeps_within.Goals as goal

pub returns : goal.returns
returns g c =
    λ costs w e column indentation other_column other_indentation flat whole laws. shift_keeps_within costs laws w e
    column indentation other_column other_indentation flat whole
