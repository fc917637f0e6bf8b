-- What is chosen of the node is best.
use Rattle.rf_search.proofs.Firsts.{some_is}
use Rattle.rf_search.proofs.searching.search_told.Goals as goal

pub returns-in-Ok-Some : goal.returns-in-Ok-Some
returns-in-Ok-Some g c = some_is c.in-Ok-Some.field-0 c.in-Ok-Some.within _ c.in-Ok-Some.field-0-is c.in-Ok-Some.ensures
