-- The first way of all has no choice.
use Rattle.rf_frontier.proofs.Ways.{leaf_none}
use Rattle.rf_frontier.proofs.hows.Hows.first.Goals as goal

pub returns-clause-choices : goal.returns-clause-choices
returns-clause-choices c = leaf_none c.self.inside.ways.items c.args.self.now 0 c.self.view_is c.self.invariant c.requires
