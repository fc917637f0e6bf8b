-- What the frontier of both lists is besides.
use Rattle.std.proofs.Common.{◌++◌, ◌∙◌, refl, ap}
use Rattle.std.proofs.lemmas.Result.{IfOk-weaker}
use Rattle.rf_base_cost.specs.Pareto.{pareto}
use Rattle.rf_base_cost.proofs.Members.{value_append}
use Rattle.rf_frontier.proofs.Behind.{belong_append, chosen_append}
use Rattle.rf_frontier.proofs.Results.{are_pruned}
use Rattle.rf_frontier.proofs.merging.merge_ways.Goals as goal

pub returns : goal.returns
returns g c =
    let costs = g.F.Factory.costs c.args.factory.now in
    let laws = g.met.F.Factory.lawful c.args.factory.now in
    let both = are_pruned costs laws c.merge_kept.result (pareto costs (c.args.a ++ c.args.b)) (c.args.a ++ c.args.b)
    (value_append costs c.args.a c.args.b c.requires.first_values c.requires.second_values) refl c.merge_kept.ensures.merged in
    record {
      merged = both.is;
      ordered = both.ordered;
      values = both.values;
      chosen = IfOk-weaker c.merge_kept.result _ _ (λ f h ways. h ways ∙ ap (pareto costs) (chosen_append ways c.args.a c.args.b)) both.chosen;
      belongs = IfOk-weaker c.merge_kept.result _ _ (λ f h ways one two. h ways (belong_append ways c.args.a c.args.b one two)) both.belongs;
      steps = c.merge_kept.ensures.steps;
    }
