-- The law is the lemma.
use Rattle.rf_base_grammar.proofs.TrailingSpaces.{Woven-clean}
use Rattle.rf_base_grammar.proofs.laws.woven_has_no_trailing_space.Goals as goal

pub returns : goal.returns
returns c = Woven-clean
