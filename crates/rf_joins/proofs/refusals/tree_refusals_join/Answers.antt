-- Items behind others that make trees are refused as they are by themselves.
use Rattle.rf_joins.proofs.TreeRefusalsJoin.{tree_refusals_joined}
use Rattle.rf_joins.proofs.refusals.tree_refusals_join.Goals as goal

pub returns : goal.returns
returns c = tree_refusals_joined
