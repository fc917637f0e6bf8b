-- What is raised behind the left measure is merged with what is kept so far.
use Rattle.std.proofs.Common.{◌≡◌, ◌≤◌, ◌++◌, length, ap, arith}
use Rattle.rf_base_cost.proofs.Members.{value_append}
use Rattle.rf_frontier.proofs.Results.{is_ordered, are_values}
use Rattle.rf_frontier.proofs.Steps.{same_frontier, same_values}
use Rattle.rf_frontier.proofs.Joins.{still_is, raised_is, raised_kept, joined_is, joined_belongs, joined_shorter}
use Rattle.rf_frontier.proofs.joined.Joined.add.Goals as goal

pub merge_kept-requires : goal.merge_kept-requires
merge_kept-requires g c =
    let costs = g.F.Factory.costs c.args.factory.now in
    let laws = g.met.F.Factory.lawful c.args.factory.now in
    let raised = raised_kept costs laws c.args.left.now c.args.right.now c.in_ok-raised.raised c.requires.left_value c.requires.right_values
    (raised_is costs c.args.left.now c.measures.result.now c.args.right.now c.in_ok-raised.raised c.in_ok-raised.ensures.raised c.measures.ensures) in
    record {
      first = same_frontier costs c.self.inside.kept c.args.self c.self.view_is c.requires.ordered;
      second = raised.0;
      first_values = same_values costs c.self.inside.kept c.args.self c.self.view_is c.requires.values;
      second_values = raised.1;
    }

pub returns-in_err-kept-clause-steps : goal.returns-in_err-kept-clause-steps
returns-in_err-kept-clause-steps g c =
    let fewer : length c.in_ok-raised.raised ≤ length c.args.right.now = joined_shorter (g.F.Factory.costs c.args.factory.now) c.args.left.now c.args.right.now c.in_ok-raised.raised
    (raised_is (g.F.Factory.costs c.args.factory.now) c.args.left.now c.measures.result.now c.args.right.now c.in_ok-raised.raised c.in_ok-raised.ensures.raised c.measures.ensures) in
    let so_far : length c.self.inside.kept ≡ length c.args.self = ap length c.self.view_is in
    let same : length c.measures.result.now ≡ length c.args.right.now = ap length c.measures.ensures in
    (omega (arith, c.raise_views.ensures.steps, c.merge_kept.ensures.steps), omega (arith, c.raise_views.ensures.steps, c.merge_kept.ensures.steps))

pub returns : goal.returns
returns g c =
    let costs = g.F.Factory.costs c.args.factory.now in
    let laws = g.met.F.Factory.lawful c.args.factory.now in
    let is = raised_is costs c.args.left.now c.measures.result.now c.args.right.now c.in_ok-raised.raised c.in_ok-raised.ensures.raised c.measures.ensures in
    let merged = still_is costs c.self.inside.kept c.args.self c.in_ok-raised.raised c.in_ok-kept.kept c.self.view_is c.in_ok-kept.ensures.merged in
    let values = value_append costs c.args.self c.in_ok-raised.raised c.requires.values
    (raised_kept costs laws c.args.left.now c.args.right.now c.in_ok-raised.raised c.requires.left_value c.requires.right_values is).1 in
    let fewer : length c.in_ok-raised.raised ≤ length c.args.right.now = joined_shorter costs c.args.left.now c.args.right.now c.in_ok-raised.raised is in
    let so_far : length c.self.inside.kept ≡ length c.args.self = ap length c.self.view_is in
    let same : length c.measures.result.now ≡ length c.args.right.now = ap length c.measures.ensures in
    record {
      chosen = joined_is costs laws c.args.left.now c.args.right.now c.args.self c.in_ok-raised.raised c.in_ok-kept.kept
          c.requires.ordered c.requires.values c.requires.left_value c.requires.right_values is merged;
      ordered = is_ordered costs laws c.in_ok-kept.kept (c.args.self ++ c.in_ok-raised.raised) values merged;
      values = are_values costs c.in_ok-kept.kept (c.args.self ++ c.in_ok-raised.raised) values merged;
      belongs = joined_belongs costs c.args.left.now c.args.right.now c.args.self c.in_ok-raised.raised c.in_ok-kept.kept is merged;
      steps = (omega (arith, c.raise_views.ensures.steps, c.merge_kept.ensures.steps), omega (arith, c.raise_views.ensures.steps, c.merge_kept.ensures.steps));
    }
