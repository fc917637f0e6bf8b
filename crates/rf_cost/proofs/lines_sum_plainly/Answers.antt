-- The law is the lemma.
use Rattle.rf_cost.proofs.Sums.{lines_sum_plainly}
use Rattle.rf_cost.proofs.lines_sum_plainly.Goals as goal

pub returns : goal.returns
returns c = lines_sum_plainly
