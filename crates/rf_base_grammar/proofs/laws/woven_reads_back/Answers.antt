-- The law is the lemma.
use Rattle.rf_base_grammar.proofs.Weaving.{Woven-itemised}
use Rattle.rf_base_grammar.proofs.laws.woven_reads_back.Goals as goal

pub returns : goal.returns
returns c = Woven-itemised
