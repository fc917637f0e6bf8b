-- The law is the lemma.
use Rattle.rf_base_grammar.proofs.OneReading.{Itemised-one}
use Rattle.rf_base_grammar.proofs.laws.one_list_of_items.Goals as goal

pub returns : goal.returns
returns c = Itemised-one
