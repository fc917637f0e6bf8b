-- The law is the lemma.
use Rattle.rf_base_grammar.proofs.OneReading.{LexRefused-one}
use Rattle.rf_base_grammar.proofs.laws.one_lex_refusal.Goals as goal

pub returns : goal.returns
returns c = LexRefused-one
