-- Trees of items, and trees of items behind them.
use Rattle.rf_joins.proofs.TreesJoin.{trees_joined}
use Rattle.rf_joins.proofs.trees.trees_join.Goals as goal

-- src/trees.rt:6:1
pub returns : goal.returns
returns c = trees_joined
