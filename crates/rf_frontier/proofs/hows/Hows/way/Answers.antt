-- A way unfolds to what its parts unfold to.
use Rattle.std.proofs.Common.{◌≡◌, ◌≤◌, Some, slice_get}
use Rattle.rf_frontier.specs.Ways.{IsWays, way_end}
use Rattle.rf_frontier.proofs.Ways.{unfolds, told_at, joins_choices}
use Rattle.rf_frontier.proofs.hows.Hows.way.Goals as goal

pub returns-clause-parts_first : goal.returns-clause-parts_first
unfolding IsWays
returns-clause-parts_first c =
    let ways = c.self.inside.ways.items in
    (c.self.invariant c.args.id.0 c.index.result.now (told_at ways c.args.self.now c.args.id.0 c.index.result.now c.self.view_is c.index.ensures c.requires)).0

pub returns-clause-choices : goal.returns-clause-choices
unfolding IsWays
returns-clause-choices c =
    let ways = c.self.inside.ways.items in
    let told : slice_get ways c.args.id.0 ≡ Some c.index.result.now =
    told_at ways c.args.self.now c.args.id.0 c.index.result.now c.self.view_is c.index.ensures c.requires in
    let first : way_end c.index.result.now ≤ c.args.id.0 = (c.self.invariant c.args.id.0 c.index.result.now told).0 in
    rw (← c.self.view_is) (unfolds ways c.args.id.0 c.index.result.now told first)

pub returns-clause-joins_choices : goal.returns-clause-joins_choices
returns-clause-joins_choices c =
    let ways = c.self.inside.ways.items in
    joins_choices ways c.args.self.now c.args.id.0 c.index.result.now c.self.view_is c.self.invariant
    (told_at ways c.args.self.now c.args.id.0 c.index.result.now c.self.view_is c.index.ensures c.requires) c.requires
