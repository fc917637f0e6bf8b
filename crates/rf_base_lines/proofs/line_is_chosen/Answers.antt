-- The law is the lemma.
use Rattle.rf_base_lines.proofs.Chosen.{line_chosen}
use Rattle.rf_base_lines.proofs.line_is_chosen.Goals as goal

pub returns : goal.returns
returns g c = λ costs w free len d l laws least. line_chosen costs laws least w free len d l
