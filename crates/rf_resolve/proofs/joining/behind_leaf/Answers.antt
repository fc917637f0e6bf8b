-- The part's frontier behind the one measure.
use Rattle.std.proofs.Common.{◌∙◌, ap}
use Rattle.rf_frontier.proofs.Ways.{keeps_same}
use Rattle.rf_resolve.specs.declared.keys.Key.{Key}
use Rattle.rf_resolve.specs.Keys.{frontier_of}
use Rattle.rf_resolve.proofs.Alone.{none_joined, joined_alone}
use Rattle.rf_resolve.proofs.joining.behind_leaf.Goals as goal

pub returns-then-not-is_given-clause-older : goal.returns-then-not-is_given-clause-older
returns-then-not-is_given-clause-older g c = keeps_same c.args.hows.now

pub add_behind-requires-clause-joined_ordered : goal.add_behind-requires-clause-joined_ordered
add_behind-requires-clause-joined_ordered g c = (none_joined (g.F.Factory.costs c.args.setting.now.factory.now) c.args.hows.now c.none.result c.none.ensures).0

pub add_behind-requires-clause-joined_values : goal.add_behind-requires-clause-joined_values
add_behind-requires-clause-joined_values g c = (none_joined (g.F.Factory.costs c.args.setting.now.factory.now) c.args.hows.now c.none.result c.none.ensures).1

pub add_behind-requires-clause-plans : goal.add_behind-requires-clause-plans
add_behind-requires-clause-plans g c = (none_joined (g.F.Factory.costs c.args.setting.now.factory.now) c.args.hows.now c.none.result c.none.ensures).2

pub returns-in_err-joined-clause-older : goal.returns-in_err-joined-clause-older
returns-in_err-joined-clause-older g c = keeps_same c.args.hows.now

pub returns-clause-answer : goal.returns-clause-answer
returns-clause-answer g c = (
  c.in_ok-finish.ensures.chosen
      ∙ joined_alone _ _ _ c.args.hows.now c.args.part c.args.m.now c.none.result c.in_ok-joined.joined _ c.none.ensures
      (c.through-second.ensures.same ∙ ap (λ (k : Key). frontier_of (g.F.Factory.costs c.args.setting.now.factory.now) c.args.setting.now.limit c.args.setting.now.core.now.nodes k) c.behind.ensures)
      c.in_ok-joined.ensures.chosen,
  c.in_ok-finish.ensures.belongs,
)
