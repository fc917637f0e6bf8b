-- A text behind one that ends in an item is refused as it is by itself.
use Rattle.rf_joins.proofs.LexRefusalsJoin.{lex_refusals_joined}
use Rattle.rf_joins.proofs.refusals.lex_refusals_join.Goals as goal

pub returns : goal.returns
returns c = lex_refusals_joined
