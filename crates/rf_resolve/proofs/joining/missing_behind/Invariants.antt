-- The measures seen so far have the part's frontier behind each.
use Rattle.std.proofs.Common.{length}
use Rattle.rf_base_optimum.specs.Plain.{EachEndsBy}
use Rattle.rf_resolve.specs.Joining.{EachIsGiven}
use Rattle.rf_resolve.proofs.joining.missing_behind.Given as goal

abbrev pub invariant-loop-m : goal.invariant-loop-m
invariant-loop-m g l = record {
  ends : EachEndsBy l.setting.limit l.left;
  known : EachIsGiven l.setting.core.now.nodes l.setting.limit l.memo l.part l.left → EachIsGiven l.setting.core.now.nodes l.setting.limit l.memo l.part l.measures;
}

abbrev pub decreases-loop-m : goal.decreases-loop-m
decreases-loop-m g l = length l.left
