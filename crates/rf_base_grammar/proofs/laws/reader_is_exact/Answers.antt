-- The law is the lemma.
use Rattle.rf_base_grammar.proofs.ReaderFinds.{found_front}
use Rattle.rf_base_grammar.proofs.ReaderIsExact.{front_found, front_wrong, stands_front}
use Rattle.rf_base_grammar.proofs.laws.reader_is_exact.Goals as goal

pub returns : goal.returns
returns c = (front_found, found_front, front_wrong, stands_front)
