-- The one measure behind the left one is merged with what is kept so far.
use Rattle.std.proofs.Common.{◌≡◌, [], ◌∷◌, ◌++◌, length, refl, ap, arith}
use Rattle.rf_base_cost.proofs.Members.{value_append}
use Rattle.rf_frontier.proofs.Behind.{one_belongs}
use Rattle.rf_frontier.proofs.Results.{is_ordered, are_values, one_value}
use Rattle.rf_frontier.proofs.Steps.{same_frontier, same_values}
use Rattle.rf_frontier.proofs.Joins.{still_is, one_raised, raised_kept, joined_is, joined_belongs}
use Rattle.rf_frontier.proofs.joined.Joined.add_one.Goals as goal

pub merge_kept-requires : goal.merge_kept-requires
merge_kept-requires g c =
    let costs = g.F.Factory.costs c.args.factory.now in
    let laws = g.met.F.Factory.lawful c.args.factory.now in
    let raised = raised_kept costs laws c.args.left.now (c.args.right ∷ []) c.one.result c.requires.left_value (one_value (c.args.right ∷ []) c.args.right refl costs c.requires.right_value)
    (one_raised costs laws c.args.left.now c.args.right c.viewed.result c.raised_by-raised.result c.one.result c.requires.left_value c.requires.right_value c.viewed.ensures c.raised_by-raised.ensures c.one.ensures) in
    record {
      first = same_frontier costs c.self.inside.kept c.args.self c.self.view_is c.requires.ordered;
      second = raised.0;
      first_values = same_values costs c.self.inside.kept c.args.self c.self.view_is c.requires.values;
      second_values = raised.1;
    }

pub returns : goal.returns
returns g c =
    let costs = g.F.Factory.costs c.args.factory.now in
    let laws = g.met.F.Factory.lawful c.args.factory.now in
    let right = one_value (c.args.right ∷ []) c.args.right refl costs c.requires.right_value in
    let is = one_raised costs laws c.args.left.now c.args.right c.viewed.result c.raised_by-raised.result c.one.result c.requires.left_value c.requires.right_value c.viewed.ensures c.raised_by-raised.ensures c.one.ensures in
    let merged = still_is costs c.self.inside.kept c.args.self c.one.result c.in_ok-kept.kept c.self.view_is c.in_ok-kept.ensures.merged in
    let values = value_append costs c.args.self c.one.result c.requires.values (raised_kept costs laws c.args.left.now (c.args.right ∷ []) c.one.result c.requires.left_value right is).1 in
    let so_far : length c.self.inside.kept ≡ length c.args.self = ap length c.self.view_is in
    let one : length c.one.result ≡ 1 = ap length c.one.ensures in
    record {
      chosen = joined_is costs laws c.args.left.now (c.args.right ∷ []) c.args.self c.one.result c.in_ok-kept.kept c.requires.ordered c.requires.values c.requires.left_value right is merged;
      ordered = is_ordered costs laws c.in_ok-kept.kept (c.args.self ++ c.one.result) values merged;
      values = are_values costs c.in_ok-kept.kept (c.args.self ++ c.one.result) values merged;
      belongs = λ ways plans left within. joined_belongs costs c.args.left.now (c.args.right ∷ []) c.args.self c.one.result c.in_ok-kept.kept is merged
          ways plans left (one_belongs ways (c.args.right ∷ []) c.args.right refl within);
      steps = (omega (arith, c.merge_kept.ensures.steps), omega (arith, c.merge_kept.ensures.steps));
    }
