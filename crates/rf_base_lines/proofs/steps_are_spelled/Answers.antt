-- The law is the lemma.
use Rattle.rf_base_lines.proofs.SpelledRows.{steps_spelled}
use Rattle.rf_base_lines.proofs.steps_are_spelled.Goals as goal

pub returns : goal.returns
returns c = steps_spelled
