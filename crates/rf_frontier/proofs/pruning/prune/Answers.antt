-- What the frontier of the list is besides.
use Rattle.std.proofs.Common.{refl, arith}
use Rattle.rf_base_cost.specs.Pareto.{pareto}
use Rattle.rf_frontier.proofs.Results.{are_pruned}
use Rattle.rf_frontier.proofs.pruning.prune.Goals as goal

pub returns : goal.returns
returns g c =
    let costs = g.F.Factory.costs c.args.factory.now in
    let laws = g.met.F.Factory.lawful c.args.factory.now in
    let all = are_pruned costs laws c.prune_list.result (pareto costs c.args.list.now) c.args.list.now c.requires.values refl c.prune_list.ensures.pruned in
    record {
      pruned = all.is;
      ordered = all.ordered;
      values = all.values;
      chosen = all.chosen;
      belongs = all.belongs;
      steps = (omega (arith, c.prune_list.ensures.steps), omega (arith, c.prune_list.ensures.steps));
    }
