-- The law is the lemma.
use Rattle.rf_base_grammar.proofs.Sources.{bytes_lexed_or_refused}
use Rattle.rf_base_grammar.proofs.laws.each_is_lexed.Goals as goal

pub returns : goal.returns
returns c = bytes_lexed_or_refused
