-- The law is the lemma.
use Rattle.rf_base_lines.proofs.SpelledRows.{sequences_spelled}
use Rattle.rf_base_lines.proofs.sequences_are_spelled.Goals as goal

pub returns : goal.returns
returns c = sequences_spelled
