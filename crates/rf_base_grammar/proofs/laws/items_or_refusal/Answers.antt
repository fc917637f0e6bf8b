-- The law is the lemma.
use Rattle.rf_base_grammar.proofs.OneReading.{Itemised-apart}
use Rattle.rf_base_grammar.proofs.laws.items_or_refusal.Goals as goal

pub returns : goal.returns
returns c = Itemised-apart
