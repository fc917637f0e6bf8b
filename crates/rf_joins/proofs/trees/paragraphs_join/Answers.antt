-- Paragraphs of trees that end in a datum, and those of trees behind them.
use Rattle.rf_joins.proofs.ParagraphsJoin.{paragraphs_joined}
use Rattle.rf_joins.proofs.trees.paragraphs_join.Goals as goal

-- src/trees.rt:11:1
pub returns : goal.returns
returns c = paragraphs_joined
