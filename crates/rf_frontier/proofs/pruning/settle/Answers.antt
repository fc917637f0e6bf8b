-- The four ways in which a measure meets the held one.
use Rattle.std.proofs.Common.{◌<◌, reverse, arith, rules}
use Rattle.rf_frontier.proofs.Prunes.{takes_place, stays_held, held_outdoes, in_front, first_value}
use Rattle.rf_frontier.proofs.Steps.{shorter_outdoes}
use Rattle.rf_frontier.proofs.pruning.settle.Goals as goal

pub le-requires-clause-second : goal.le-requires-clause-second
le-requires-clause-second g c = first_value (g.F.Factory.costs c.args.factory.now) c.args.held.now (reverse c.args.behind.now.items) c.requires.values

pub le-requires-else-m-held-clause-first : goal.le-requires-else-m-held-clause-first
le-requires-else-m-held-clause-first g c = first_value (g.F.Factory.costs c.args.factory.now) c.args.held.now (reverse c.args.behind.now.items) c.requires.values

pub returns-then-le-clause-settled : goal.returns-then-le-clause-settled
returns-then-le-clause-settled g c =
    takes_place (g.F.Factory.costs c.args.factory.now) (g.met.F.Factory.lawful c.args.factory.now) c.args.m c.args.held.now (reverse c.args.behind.now.items)
    c.requires.value c.requires.values c.requires.ordered (search rules) (search rules)

pub returns-else-le-clause-settled : goal.returns-else-le-clause-settled
returns-else-le-clause-settled g c =
    let held = first_value (g.F.Factory.costs c.args.factory.now) c.args.held.now (reverse c.args.behind.now.items) c.requires.values in
    stays_held (g.F.Factory.costs c.args.factory.now) (g.met.F.Factory.lawful c.args.factory.now) c.args.m c.args.held.now (reverse c.args.behind.now.items)
    c.requires.value c.requires.values c.requires.ordered
    (held_outdoes (g.F.Factory.costs c.args.factory.now) (g.met.F.Factory.lawful c.args.factory.now) c.args.m c.args.held.now c.requires.value held (search rules) (search rules))

pub returns-in_ok-push-clause-settled : goal.returns-in_ok-push-clause-settled
returns-in_ok-push-clause-settled g c =
    let less : c.args.held.now.last < c.args.m.last = omega arith in
    in_front (g.F.Factory.costs c.args.factory.now) (g.met.F.Factory.lawful c.args.factory.now) c.args.m c.args.held.now c.args.behind.now.items c.push.new.self.items
    c.requires.value c.requires.values c.requires.ordered less (search rules) (search rules)

pub returns-else-not-le-clause-settled : goal.returns-else-not-le-clause-settled
returns-else-not-le-clause-settled g c =
    let less : c.args.held.now.last < c.args.m.last = omega arith in
    stays_held (g.F.Factory.costs c.args.factory.now) (g.met.F.Factory.lawful c.args.factory.now) c.args.m c.args.held.now (reverse c.args.behind.now.items)
    c.requires.value c.requires.values c.requires.ordered
    (shorter_outdoes (g.F.Factory.costs c.args.factory.now) c.args.m c.args.held.now less (search rules))
