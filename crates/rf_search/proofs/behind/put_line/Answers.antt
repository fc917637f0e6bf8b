-- The way is one.
use Rattle.std.proofs.Common.{refl}
use Rattle.rf_frontier.proofs.Behind.{one_belongs}
use Rattle.rf_search.proofs.behind.put_line.Goals as goal

pub returns-clause-belong : goal.returns-clause-belong
returns-clause-belong g c = one_belongs c.join.new.self _ _ refl c.in_ok-m.ensures.in_ways
