-- The law is the lemma.
use Rattle.rf_cost.proofs.Sums.{linear_sums_plainly}
use Rattle.rf_cost.proofs.linear_sums_plainly.Goals as goal

pub returns : goal.returns
returns c = linear_sums_plainly
