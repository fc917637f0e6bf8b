-- The law is the lemma.
use Rattle.rf_cost.proofs.Sums.{squares_sum_plainly}
use Rattle.rf_cost.proofs.squares_sum_plainly.Goals as goal

pub returns : goal.returns
returns c = squares_sum_plainly
