-- The first measure is a value, and its way is one of the ways.
use Rattle.std.proofs.Common.{◌<◌, length, rules}
use Rattle.rf_cost.specs.Factories.{squares}
use Rattle.rf_frontier.proofs.Ways.{keeps_same}
use Rattle.rf_frontier.proofs.Steps.{same_values}
use Rattle.rf_frontier.proofs.Behind.{same_belong}
use Rattle.rf_bench.proofs.Lists.{value_get, belong_get}
use Rattle.rf_bench.proofs.frontiers.shifted.Goals as goal

pub returns-then-is_empty : goal.returns-then-is_empty
returns-then-is_empty g c = record { older = keeps_same c.args.hows.now }

pub shift-requires : goal.shift-requires
shift-requires g c =
    let some : 0 < length c.measures-measures.result.now = search rules in
    record {
      left_value = value_get (squares 80) c.measures-measures.result.now 0 _
          (same_values (squares 80) c.measures-measures.result.now c.args.left.now c.measures-measures.ensures c.requires.left_values) some;
      ordered = c.requires.ordered;
      values = c.requires.values;
      left_belongs = belong_get c.args.hows.now c.measures-measures.result.now 0 _
          (same_belong c.args.hows.now c.measures-measures.result.now c.args.left.now c.measures-measures.ensures c.requires.left_belongs) some;
      belongs = c.requires.belongs;
    }
