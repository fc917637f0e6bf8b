-- Each turn keeps or drops the first measure of one of the lists.
use Rattle.std.proofs.Common.{◌≡◌, ◌+◌, ◌<◌, ◌++◌, length, arith, rules}
use Rattle.rf_base_cost.specs.Pareto.{pareto, all_rewayed}
use Rattle.rf_frontier.proofs.Steps.{kept_first, kept_second, dropped_first, dropped_second, frontier_rest, values_rest, all_merged}
use Rattle.rf_frontier.proofs.Seen.{seen-length, seen_rest, seen_first, turn_of}
use Rattle.rf_frontier.specs.declared.turns.Turn.TheVariants.{KeepFirst, KeepSecond, DropFirst, DropSecond}
use Rattle.rf_frontier.proofs.merging.merge_views.Goals as goal

pub loop-first-preserved-in-KeepFirst : goal.loop-first-preserved-in-KeepFirst
loop-first-preserved-in-KeepFirst g c =
    let some : 0 < length c.loop-first.first.now + length c.loop-first.second.now = search rules in
    record {
      so_far = kept_first (g.F.Factory.costs c.args.factory.now) c.loop-first.merged c.push.new.self (all_rewayed (g.V.View.seen c.args.view_of_a.now) c.loop-first.first.now) (all_rewayed (g.V.View.seen c.args.view_of_b.now) c.loop-first.second.now) (all_rewayed (g.V.View.seen c.args.view_of_a.now) c.rest-first.result.now)
          (pareto (g.F.Factory.costs c.args.factory.now) (all_rewayed (g.V.View.seen c.args.view_of_a.now) c.args.a.now ++ all_rewayed (g.V.View.seen c.args.view_of_b.now) c.args.b.now)) c.viewed.result
          c.loop-first.invariant.so_far (turn_of (g.F.Factory.costs c.args.factory.now) (g.met.F.Factory.lawful c.args.factory.now) (g.V.View.seen c.args.view_of_a.now) (g.V.View.seen c.args.view_of_b.now) c.loop-first.first.now c.loop-first.second.now KeepFirst
          c.loop-first.invariant.first c.loop-first.invariant.second c.loop-first.invariant.first_values c.loop-first.invariant.second_values some c.in-KeepFirst.ensures.turn) (seen_first (g.V.View.seen c.args.view_of_a.now) c.loop-first.first.now c.index-first-0.result c.viewed.result c.index-first-0.is c.viewed.ensures) c.in_ok-push-in-KeepFirst.ensures (seen_rest (g.V.View.seen c.args.view_of_a.now) c.loop-first.first.now c.rest-first.result.now c.rest-first.ensures.rest);
      first = frontier_rest (g.F.Factory.costs c.args.factory.now) c.loop-first.first.now c.rest-first.result.now c.rest-first.ensures.rest c.loop-first.invariant.first;
      second = c.loop-first.invariant.second;
      first_values = values_rest (g.F.Factory.costs c.args.factory.now) c.loop-first.first.now c.rest-first.result.now c.rest-first.ensures.rest c.loop-first.invariant.first_values;
      second_values = c.loop-first.invariant.second_values;
      risen = omega (arith, c.in-KeepFirst.ensures.steps);
      steps = omega (arith, c.in-KeepFirst.ensures.steps);
    }

pub loop-first-preserved-in-KeepSecond : goal.loop-first-preserved-in-KeepSecond
loop-first-preserved-in-KeepSecond g c =
    let some : 0 < length c.loop-first.first.now + length c.loop-first.second.now = search rules in
    record {
      so_far = kept_second (g.F.Factory.costs c.args.factory.now) c.loop-first.merged c.push-in-KeepSecond.new.self (all_rewayed (g.V.View.seen c.args.view_of_a.now) c.loop-first.first.now) (all_rewayed (g.V.View.seen c.args.view_of_b.now) c.loop-first.second.now) (all_rewayed (g.V.View.seen c.args.view_of_b.now) c.rest-second.result.now)
          (pareto (g.F.Factory.costs c.args.factory.now) (all_rewayed (g.V.View.seen c.args.view_of_a.now) c.args.a.now ++ all_rewayed (g.V.View.seen c.args.view_of_b.now) c.args.b.now)) c.viewed-in-KeepSecond.result
          c.loop-first.invariant.so_far (turn_of (g.F.Factory.costs c.args.factory.now) (g.met.F.Factory.lawful c.args.factory.now) (g.V.View.seen c.args.view_of_a.now) (g.V.View.seen c.args.view_of_b.now) c.loop-first.first.now c.loop-first.second.now KeepSecond
          c.loop-first.invariant.first c.loop-first.invariant.second c.loop-first.invariant.first_values c.loop-first.invariant.second_values some c.in-KeepSecond.ensures.turn) (seen_first (g.V.View.seen c.args.view_of_b.now) c.loop-first.second.now c.index-second-0.result c.viewed-in-KeepSecond.result c.index-second-0.is c.viewed-in-KeepSecond.ensures) c.in_ok-push-in-KeepSecond.ensures (seen_rest (g.V.View.seen c.args.view_of_b.now) c.loop-first.second.now c.rest-second.result.now c.rest-second.ensures.rest);
      first = c.loop-first.invariant.first;
      second = frontier_rest (g.F.Factory.costs c.args.factory.now) c.loop-first.second.now c.rest-second.result.now c.rest-second.ensures.rest c.loop-first.invariant.second;
      first_values = c.loop-first.invariant.first_values;
      second_values = values_rest (g.F.Factory.costs c.args.factory.now) c.loop-first.second.now c.rest-second.result.now c.rest-second.ensures.rest c.loop-first.invariant.second_values;
      risen = omega (arith, c.in-KeepSecond.ensures.steps);
      steps = omega (arith, c.in-KeepSecond.ensures.steps);
    }

pub loop-first-preserved-in-DropFirst : goal.loop-first-preserved-in-DropFirst
loop-first-preserved-in-DropFirst g c =
    let some : 0 < length c.loop-first.first.now + length c.loop-first.second.now = search rules in
    record {
      so_far = dropped_first (g.F.Factory.costs c.args.factory.now) c.loop-first.merged (all_rewayed (g.V.View.seen c.args.view_of_a.now) c.loop-first.first.now) (all_rewayed (g.V.View.seen c.args.view_of_b.now) c.loop-first.second.now) (all_rewayed (g.V.View.seen c.args.view_of_a.now) c.rest-first-in-DropFirst.result.now)
          (pareto (g.F.Factory.costs c.args.factory.now) (all_rewayed (g.V.View.seen c.args.view_of_a.now) c.args.a.now ++ all_rewayed (g.V.View.seen c.args.view_of_b.now) c.args.b.now))
          c.loop-first.invariant.so_far (turn_of (g.F.Factory.costs c.args.factory.now) (g.met.F.Factory.lawful c.args.factory.now) (g.V.View.seen c.args.view_of_a.now) (g.V.View.seen c.args.view_of_b.now) c.loop-first.first.now c.loop-first.second.now DropFirst
          c.loop-first.invariant.first c.loop-first.invariant.second c.loop-first.invariant.first_values c.loop-first.invariant.second_values some c.in-DropFirst.ensures.turn) (seen_rest (g.V.View.seen c.args.view_of_a.now) c.loop-first.first.now c.rest-first-in-DropFirst.result.now c.rest-first-in-DropFirst.ensures.rest);
      first = frontier_rest (g.F.Factory.costs c.args.factory.now) c.loop-first.first.now c.rest-first-in-DropFirst.result.now c.rest-first-in-DropFirst.ensures.rest c.loop-first.invariant.first;
      second = c.loop-first.invariant.second;
      first_values = values_rest (g.F.Factory.costs c.args.factory.now) c.loop-first.first.now c.rest-first-in-DropFirst.result.now c.rest-first-in-DropFirst.ensures.rest c.loop-first.invariant.first_values;
      second_values = c.loop-first.invariant.second_values;
      risen = omega (arith, c.in-DropFirst.ensures.steps);
      steps = omega (arith, c.in-DropFirst.ensures.steps);
    }

pub loop-first-preserved : goal.loop-first-preserved
loop-first-preserved g c =
    let some : 0 < length c.loop-first.first.now + length c.loop-first.second.now = search rules in
    record {
      so_far = dropped_second (g.F.Factory.costs c.args.factory.now) c.loop-first.merged (all_rewayed (g.V.View.seen c.args.view_of_a.now) c.loop-first.first.now) (all_rewayed (g.V.View.seen c.args.view_of_b.now) c.loop-first.second.now) (all_rewayed (g.V.View.seen c.args.view_of_b.now) c.rest-second-in-DropSecond.result.now)
          (pareto (g.F.Factory.costs c.args.factory.now) (all_rewayed (g.V.View.seen c.args.view_of_a.now) c.args.a.now ++ all_rewayed (g.V.View.seen c.args.view_of_b.now) c.args.b.now))
          c.loop-first.invariant.so_far (turn_of (g.F.Factory.costs c.args.factory.now) (g.met.F.Factory.lawful c.args.factory.now) (g.V.View.seen c.args.view_of_a.now) (g.V.View.seen c.args.view_of_b.now) c.loop-first.first.now c.loop-first.second.now DropSecond
          c.loop-first.invariant.first c.loop-first.invariant.second c.loop-first.invariant.first_values c.loop-first.invariant.second_values some c.in-DropSecond.ensures.turn) (seen_rest (g.V.View.seen c.args.view_of_b.now) c.loop-first.second.now c.rest-second-in-DropSecond.result.now c.rest-second-in-DropSecond.ensures.rest);
      first = c.loop-first.invariant.first;
      second = frontier_rest (g.F.Factory.costs c.args.factory.now) c.loop-first.second.now c.rest-second-in-DropSecond.result.now c.rest-second-in-DropSecond.ensures.rest c.loop-first.invariant.second;
      first_values = c.loop-first.invariant.first_values;
      second_values = values_rest (g.F.Factory.costs c.args.factory.now) c.loop-first.second.now c.rest-second-in-DropSecond.result.now c.rest-second-in-DropSecond.ensures.rest c.loop-first.invariant.second_values;
      risen = omega (arith, c.in-DropSecond.ensures.steps);
      steps = omega (arith, c.in-DropSecond.ensures.steps);
    }

pub returns-clause-merged : goal.returns-clause-merged
returns-clause-merged g c =
    let none : length c.loop-first.first.now ≡ 0 = search rules in
    let none_behind : length c.loop-first.second.now ≡ 0 = search rules in
    all_merged (g.F.Factory.costs c.args.factory.now) c.loop-first.merged (all_rewayed (g.V.View.seen c.args.view_of_a.now) c.loop-first.first.now) (all_rewayed (g.V.View.seen c.args.view_of_b.now) c.loop-first.second.now) (pareto (g.F.Factory.costs c.args.factory.now) (all_rewayed (g.V.View.seen c.args.view_of_a.now) c.args.a.now ++ all_rewayed (g.V.View.seen c.args.view_of_b.now) c.args.b.now))
    (omega (arith, seen-length (g.V.View.seen c.args.view_of_a.now) c.loop-first.first.now)) (omega (arith, seen-length (g.V.View.seen c.args.view_of_b.now) c.loop-first.second.now)) c.loop-first.invariant.so_far
