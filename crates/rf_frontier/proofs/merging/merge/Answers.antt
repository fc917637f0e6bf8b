-- What the frontier of both lists is besides.
use Rattle.std.proofs.Common.{◌≡◌, ◌++◌, length, ◌∙◌, ap, arith}
use Rattle.std.proofs.lemmas.Result.{IfOk-weaker}
use Rattle.rf_base_cost.specs.Pareto.{pareto}
use Rattle.rf_base_cost.proofs.Members.{value_append}
use Rattle.rf_frontier.proofs.Behind.{belong_append, chosen_append}
use Rattle.rf_frontier.proofs.Results.{are_pruned, same_both}
use Rattle.rf_frontier.proofs.merging.merge.Goals as goal

pub returns : goal.returns
returns g c =
    let costs = g.F.Factory.costs c.args.factory.now in
    let laws = g.met.F.Factory.lawful c.args.factory.now in
    let both = are_pruned costs laws c.of.result c.in_ok-kept.kept (c.args.a.now ++ c.args.b.now)
    (value_append costs c.args.a.now c.args.b.now c.requires.first_values c.requires.second_values)
    (c.in_ok-kept.ensures.merged ∙ same_both costs c.measures.result.now c.args.a.now c.measures-2.result.now c.args.b.now c.measures.ensures c.measures-2.ensures) c.of.ensures in
    let first : length c.measures.result.now ≡ length c.args.a.now = ap length c.measures.ensures in
    let second : length c.measures-2.result.now ≡ length c.args.b.now = ap length c.measures-2.ensures in
    record {
      merged = both.is;
      ordered = both.ordered;
      values = both.values;
      chosen = IfOk-weaker c.of.result _ _ (λ f h ways. h ways ∙ ap (pareto costs) (chosen_append ways c.args.a.now c.args.b.now)) both.chosen;
      belongs = IfOk-weaker c.of.result _ _ (λ f h ways one two. h ways (belong_append ways c.args.a.now c.args.b.now one two)) both.belongs;
      steps = (omega (arith, c.merge_lists.ensures.steps), omega (arith, c.merge_lists.ensures.steps));
    }
