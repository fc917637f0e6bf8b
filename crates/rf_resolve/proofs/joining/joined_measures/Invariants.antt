-- What is joined so far and what is left to join make the whole.
use Rattle.std.proofs.Common.{◌≤◌, ◌+◌, ◌*◌, length}
use Rattle.rf_base_cost.specs.Pareto.{EachIsValue}
use Rattle.rf_base_optimum.specs.Plain.{EachEndsBy}
use Rattle.rf_frontier.specs.Frontiers.{BelongTo}
use Rattle.rf_resolve.specs.Joining.{EachIsGiven}
use Rattle.rf_resolve.proofs.Joined.{JoinsOn}
use Rattle.rf_resolve.proofs.joining.joined_measures.Given as goal

abbrev pub invariant-loop-m : goal.invariant-loop-m
invariant-loop-m g l = record {
  ends : EachEndsBy l.setting.limit l.left;
  values : EachIsValue (g.F.Factory.costs l.setting.factory.now) l.left;
  belong : BelongTo l.hows l.left;
  known : EachIsGiven l.setting.core.now.nodes l.setting.limit l.memo l.part l.left;
  on : JoinsOn (g.F.Factory.costs l.setting.factory.now) l.setting.limit l.setting.core.now.nodes l.hows l.part l.measures l.left l.joined;
  risen : l.fn.steps ≤ l.steps;
  paid : l.steps + 3 * (l.setting.limit + 1) * length l.left ≤ l.fn.steps + 3 * (l.setting.limit + 1) * length l.measures;
}

abbrev pub decreases-loop-m : goal.decreases-loop-m
decreases-loop-m g l = length l.left
