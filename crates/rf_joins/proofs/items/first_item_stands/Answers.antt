-- The law is the lemma.
use Rattle.rf_joins.proofs.ItemsJoin.{first_stands}
use Rattle.rf_joins.proofs.items.first_item_stands.Goals as goal

pub returns : goal.returns
returns c = first_stands
