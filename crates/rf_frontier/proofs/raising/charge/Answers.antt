-- The cost of a charge is a value, and what the frontier is besides.
use Rattle.std.proofs.Common.{◌≡◌, length, ◌∙◌, ap, arith}
use Rattle.std.proofs.lemmas.Result.{IfOk-weaker}
use Rattle.rf_base_cost.specs.Pareto.{pareto, all_raised}
use Rattle.rf_frontier.proofs.Behind.{belong_raised}
use Rattle.rf_frontier.proofs.Steps.{same_value, same_frontier, same_values}
use Rattle.rf_frontier.proofs.Raises.{raised_values}
use Rattle.rf_frontier.proofs.Results.{are_pruned, raised_chosen, same_raised}
use Rattle.rf_frontier.proofs.raising.charge.Goals as goal

pub raise-requires : goal.raise-requires
raise-requires g c = record {
  by_value = same_value (g.F.Factory.costs c.args.factory.now) c.charge.result ((g.F.Factory.costs c.args.factory.now).charge c.args.k) c.charge.ensures
      ((g.met.F.Factory.lawful c.args.factory.now).charge_is_value c.args.k c.requires.charge);
  ordered = same_frontier (g.F.Factory.costs c.args.factory.now) c.measures.result.now c.args.f.now c.measures.ensures c.requires.ordered;
  values = same_values (g.F.Factory.costs c.args.factory.now) c.measures.result.now c.args.f.now c.measures.ensures c.requires.values;
}

pub returns : goal.returns
returns g c =
    let costs = g.F.Factory.costs c.args.factory.now in
    let laws = g.met.F.Factory.lawful c.args.factory.now in
    let by = costs.charge c.args.k in
    let raised = are_pruned costs laws c.raise.result _ (all_raised costs by c.args.f.now)
    (raised_values costs laws by c.args.f.now (laws.charge_is_value c.args.k c.requires.charge) c.requires.values)
    (same_raised costs c.charge.result by c.measures.result.now c.args.f.now c.charge.ensures c.measures.ensures) c.raise.ensures.raised in
    let same : length c.measures.result.now ≡ length c.args.f.now = ap length c.measures.ensures in
    record {
      charged = raised.is;
      ordered = raised.ordered;
      values = raised.values;
      chosen = IfOk-weaker c.raise.result _ _ (λ f h ways. h ways ∙ ap (pareto costs) (raised_chosen costs by ways c.args.f.now)) raised.chosen;
      belongs = IfOk-weaker c.raise.result _ _ (λ f h ways b. h ways (belong_raised costs by ways c.args.f.now b)) raised.belongs;
      steps = (omega (arith, c.raise.ensures.steps), omega (arith, c.raise.ensures.steps));
    }
