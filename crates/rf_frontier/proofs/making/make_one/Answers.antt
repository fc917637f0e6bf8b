-- The way of the one measure was made.
use Rattle.rf_frontier.proofs.Behind.{one_belongs}
use Rattle.rf_frontier.proofs.Made.{one_item}
use Rattle.rf_frontier.proofs.making.make_one.Goals as goal

pub returns-clause-belongs : goal.returns-clause-belongs
returns-clause-belongs g c = one_belongs c.behind.new.self c.push.new.self.items _ (one_item c.in_ok-made.made.items c.push.new.self.items _ c.in_ok-made.ensures.items c.in_ok-push.ensures.items) c.in_ok-how.ensures.in_ways
