-- What the walk comes to stays the same, what the memo has is right, and the steps are paid by gaps.
use Rattle.std.proofs.Common.{◌≡◌, length}
use Rattle.rf_base_document.specs.Graph.{unfolded}
use Rattle.rf_memo.specs.Memo.{found}
use Rattle.rf_resolve.specs.Gaps.{gaps, PaidByGaps}
use Rattle.rf_resolve.specs.Holding.{MemoHolds}
use Rattle.rf_resolve.specs.Walk.{IsWalk, outcome, turns_of, walk}
use Rattle.rf_resolve.proofs.walking.chosen_choices.Given as goal

abbrev pub invariant-loop-frame : goal.invariant-loop-frame
invariant-loop-frame g l = record {
  holds : MemoHolds (g.F.Factory.costs l.setting.factory.now) l.setting.limit l.setting.core.now.nodes l.hows l.memo;
  is_walk : IsWalk l.setting.core.now.nodes l.setting.limit l.walk;
  same : outcome (g.F.Factory.costs l.setting.factory.now) l.setting.limit l.setting.core.now.nodes l.walk
      ≡ walk (g.F.Factory.costs l.setting.factory.now) l.setting.limit (unfolded l.setting.core.now.nodes l.setting.core.now.root) 0 0;
  paid : PaidByGaps l.setting.limit (gaps (found l.fn.memo) (length l.setting.core.now.nodes) l.setting.limit) (gaps (found l.memo) (length l.setting.core.now.nodes) l.setting.limit) l.fn.steps l.steps;
}

abbrev pub decreases-loop-frame : goal.decreases-loop-frame
decreases-loop-frame g l = turns_of l.setting.core.now.nodes l.walk.pending.items
