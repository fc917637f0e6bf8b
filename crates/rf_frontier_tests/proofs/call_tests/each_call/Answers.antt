-- Along a frontier the last columns never rise.
use Rattle.std.proofs.lemmas.Result.{IfOk-weaker}
use Rattle.rf_frontier.proofs.Steps.{same_frontier, same_values}
use Rattle.rf_frontier.proofs.Behind.{same_belong}
use Rattle.rf_frontier_tests.proofs.Lists.{frontier_never_rises}
use Rattle.rf_frontier_tests.proofs.call_tests.each_call.Goals as goal

pub prune-requires : goal.prune-requires
prune-requires g c = record {
  falling = frontier_never_rises (g.F.Factory.costs c.args.factory.now) c.measures.result.now
      (same_frontier (g.F.Factory.costs c.args.factory.now) c.measures.result.now c.in_ok-behind.behind c.measures.ensures c.in_ok-behind.ensures.ordered);
  values = same_values (g.F.Factory.costs c.args.factory.now) c.measures.result.now c.in_ok-behind.behind c.measures.ensures c.in_ok-behind.ensures.values;
}

pub returns : goal.returns
returns g c =
    IfOk-weaker c.prune.result _ _
    (λ f p. p c.behind_first.new.hows (same_belong c.behind_first.new.hows c.measures.result.now c.in_ok-behind.behind c.measures.ensures c.in_ok-behind.ensures.belongs))
    c.prune.ensures.belongs
