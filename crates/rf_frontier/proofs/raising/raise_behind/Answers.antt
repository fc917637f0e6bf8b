-- Each turn of the loop raises one more measure.
use Rattle.std.proofs.Common.{◌≡◌, ◌<◌, ◌∷◌, length, arith, rules}
use Rattle.rf_base_cost.specs.Pareto.{pareto, all_raised, all_rewayed}
use Rattle.rf_base_cost.proofs.Choices.{values_same}
use Rattle.rf_frontier.proofs.Steps.{value_at, values_rest}
use Rattle.rf_frontier.proofs.Raises.{begins_with, raise_turn, raise_ends, raised_value}
use Rattle.rf_frontier.proofs.Seen.{seen-length, seen_rest, seen_first, viewed_value}
use Rattle.rf_frontier.proofs.raising.raise_behind.Goals as goal

pub loop-left-init : goal.loop-left-init
loop-left-init g c = record {
  raising = begins_with (g.F.Factory.costs c.args.factory.now) c.args.by c.none-kept.result c.args.first (all_rewayed (g.V.View.seen c.args.view.now) c.args.others.now) c.none-kept.ensures
      c.requires.raised c.requires.first_value (values_same (g.F.Factory.costs c.args.factory.now) (g.V.View.seen c.args.view.now) c.args.others.now c.requires.values);
  values = c.requires.values;
  risen = omega arith;
  steps = omega arith;
}

pub raised_by-next-requires-clause-measure : goal.raised_by-next-requires-clause-measure
raised_by-next-requires-clause-measure g c =
    viewed_value (g.F.Factory.costs c.args.factory.now) (g.V.View.seen c.args.view.now) c.index-left-0.result c.viewed.result c.viewed.ensures
    (value_at (g.F.Factory.costs c.args.factory.now) c.loop-left.left.now 0 c.index-left-0.result c.loop-left.invariant.values (search rules) c.index-left-0.is)

pub keep_unless_outdone-requires : goal.keep_unless_outdone-requires
keep_unless_outdone-requires g c =
    let some : 0 < length c.loop-left.left.now = search rules in
    record {
      held = c.loop-left.invariant.raising.2;
      next = raised_value (g.F.Factory.costs c.args.factory.now) (g.met.F.Factory.lawful c.args.factory.now) c.args.by c.viewed.result c.raised_by-next.result c.raised_by-next.ensures c.requires.by_value
          (viewed_value (g.F.Factory.costs c.args.factory.now) (g.V.View.seen c.args.view.now) c.index-left-0.result c.viewed.result c.viewed.ensures
          (value_at (g.F.Factory.costs c.args.factory.now) c.loop-left.left.now 0 c.index-left-0.result c.loop-left.invariant.values some c.index-left-0.is));
    }

pub loop-left-preserved : goal.loop-left-preserved
loop-left-preserved g c =
    let some : 0 < length c.loop-left.left.now = search rules in
    record {
      raising = raise_turn (g.F.Factory.costs c.args.factory.now) (g.met.F.Factory.lawful c.args.factory.now) c.args.by c.loop-left.kept c.keep_unless_outdone.new.kept c.loop-left.held
          c.raised_by-next.result c.viewed.result (all_rewayed (g.V.View.seen c.args.view.now) c.loop-left.left.now) (all_rewayed (g.V.View.seen c.args.view.now) c.rest-left.result.now)
          (pareto (g.F.Factory.costs c.args.factory.now) (c.args.first ∷ all_raised (g.F.Factory.costs c.args.factory.now) c.args.by (all_rewayed (g.V.View.seen c.args.view.now) c.args.others.now)))
          c.requires.by_value (omega (arith, seen-length (g.V.View.seen c.args.view.now) c.loop-left.left.now))
          (seen_first (g.V.View.seen c.args.view.now) c.loop-left.left.now c.index-left-0.result c.viewed.result c.index-left-0.is c.viewed.ensures) c.raised_by-next.ensures
          (seen_rest (g.V.View.seen c.args.view.now) c.loop-left.left.now c.rest-left.result.now c.rest-left.ensures.rest) c.in_ok-keep_unless_outdone.ensures.kept c.loop-left.invariant.raising;
      values = values_rest (g.F.Factory.costs c.args.factory.now) c.loop-left.left.now c.rest-left.result.now c.rest-left.ensures.rest c.loop-left.invariant.values;
      risen = omega (arith, c.keep_unless_outdone.ensures.steps);
      steps = omega (arith, c.keep_unless_outdone.ensures.steps);
    }

pub returns-clause-raised : goal.returns-clause-raised
returns-clause-raised g c =
    let none : length c.loop-left.left.now ≡ 0 = search rules in
    raise_ends (g.F.Factory.costs c.args.factory.now) (g.met.F.Factory.lawful c.args.factory.now) c.args.by c.loop-left.kept c.push.new.self c.loop-left.held
    (all_rewayed (g.V.View.seen c.args.view.now) c.loop-left.left.now)
    (pareto (g.F.Factory.costs c.args.factory.now) (c.args.first ∷ all_raised (g.F.Factory.costs c.args.factory.now) c.args.by (all_rewayed (g.V.View.seen c.args.view.now) c.args.others.now)))
    (omega (arith, seen-length (g.V.View.seen c.args.view.now) c.loop-left.left.now)) c.in_ok-push.ensures c.loop-left.invariant.raising
