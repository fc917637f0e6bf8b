-- The first way of all has no choice, and each other has one.
use Rattle.rf_frontier.proofs.Ways.{leaf_none, others_some}
use Rattle.rf_frontier.proofs.hows.Hows.is_leaf.Goals as goal

pub returns-clause-none : goal.returns-clause-none
returns-clause-none c = leaf_none c.self.inside.ways.items c.args.self.now c.args.id.0 c.self.view_is c.self.invariant c.requires

pub returns-clause-some : goal.returns-clause-some
returns-clause-some c = others_some c.self.inside.ways.items c.args.self.now c.args.id.0 c.self.view_is c.self.invariant c.requires
