-- The first measure is a value, and its way is one of the ways.
use Rattle.std.proofs.Common.{◌<◌, length, rules}
use Rattle.rf_frontier.proofs.Steps.{value_at, same_values}
use Rattle.rf_frontier.proofs.Behind.{belong_at, same_belong}
use Rattle.rf_frontier_tests.proofs.call_tests.behind_first.Goals as goal

pub shift-requires : goal.shift-requires
shift-requires g c =
    let some : 0 < length c.measures-measures.result.now = search rules in
    record {
      left_value = value_at (g.F.Factory.costs c.args.factory.now) c.measures-measures.result.now 0 c.index-measures-0.result
          (same_values (g.F.Factory.costs c.args.factory.now) c.measures-measures.result.now c.args.left.now c.measures-measures.ensures c.requires.left_values) some c.index-measures-0.is;
      ordered = c.requires.ordered;
      values = c.requires.values;
      left_belongs = belong_at c.args.hows.now c.measures-measures.result.now 0 c.index-measures-0.result
          (same_belong c.args.hows.now c.measures-measures.result.now c.args.left.now c.measures-measures.ensures c.requires.left_belongs) some c.index-measures-0.is;
      belongs = c.requires.belongs;
    }
