-- What is raised first, and then the rest of the list, is the list raised.
use Rattle.std.proofs.Common.{◌≡◌, ◌<◌, length, ◌∙◌, arith, rules}
use Rattle.rf_base_cost.specs.Pareto.{all_rewayed}
use Rattle.rf_base_cost.proofs.Choices.{frontier_same, values_same}
use Rattle.rf_frontier.proofs.Steps.{value_at, values_rest}
use Rattle.rf_frontier.proofs.Raises.{raise_first, raised_none}
use Rattle.rf_frontier.proofs.Seen.{seen-length, seen_rest, seen_first, viewed_value}
use Rattle.rf_frontier.proofs.raising.raise_views.Goals as goal

pub returns-then-is_empty-clause-raised : goal.returns-then-is_empty-clause-raised
returns-then-is_empty-clause-raised g c =
    let none : length c.args.list.now ≡ 0 = search rules in
    c.none.ensures ∙ raised_none (g.F.Factory.costs c.args.factory.now) c.args.by (all_rewayed (g.V.View.seen c.args.view.now) c.args.list.now)
    (omega (arith, seen-length (g.V.View.seen c.args.view.now) c.args.list.now))

pub raised_by-first-requires-clause-measure : goal.raised_by-first-requires-clause-measure
raised_by-first-requires-clause-measure g c =
    viewed_value (g.F.Factory.costs c.args.factory.now) (g.V.View.seen c.args.view.now) c.index-list-0.result c.viewed.result c.viewed.ensures
    (value_at (g.F.Factory.costs c.args.factory.now) c.args.list.now 0 c.index-list-0.result c.requires.values (search rules) c.index-list-0.is)

pub raise_behind-requires : goal.raise_behind-requires
raise_behind-requires g c =
    let some : 0 < length c.args.list.now = search rules in
    let first = raise_first (g.F.Factory.costs c.args.factory.now) (g.met.F.Factory.lawful c.args.factory.now) c.args.by c.viewed.result c.raised_by-first.result
    (all_rewayed (g.V.View.seen c.args.view.now) c.args.list.now) (all_rewayed (g.V.View.seen c.args.view.now) c.rest.result.now)
    c.requires.by_value (frontier_same (g.F.Factory.costs c.args.factory.now) (g.V.View.seen c.args.view.now) c.args.list.now c.requires.ordered)
    (values_same (g.F.Factory.costs c.args.factory.now) (g.V.View.seen c.args.view.now) c.args.list.now c.requires.values)
    (omega (arith, seen-length (g.V.View.seen c.args.view.now) c.args.list.now))
    (seen_first (g.V.View.seen c.args.view.now) c.args.list.now c.index-list-0.result c.viewed.result c.index-list-0.is c.viewed.ensures) c.raised_by-first.ensures
    (seen_rest (g.V.View.seen c.args.view.now) c.args.list.now c.rest.result.now c.rest.ensures.rest) in
    record {
      by_value = c.requires.by_value;
      raised = first.1;
      first_value = first.2;
      values = values_rest (g.F.Factory.costs c.args.factory.now) c.args.list.now c.rest.result.now c.rest.ensures.rest c.requires.values;
    }
