-- What the memo has is right, the keys on the stack are missing, and the steps are paid by gaps.
use Rattle.std.proofs.Common.{◌+◌, ◌-◌, ◌*◌, length}
use Rattle.rf_frontier.specs.Ways.{KeepsWays}
use Rattle.rf_memo.specs.Memo.{found}
use Rattle.rf_resolve.specs.Gaps.{gaps, PaidByGaps}
use Rattle.rf_resolve.specs.Holding.{MemoHolds}
use Rattle.rf_resolve.proofs.Fills.{AreMissing, IsAwaited}
use Rattle.rf_resolve.proofs.filling.fill.Given as goal

abbrev pub invariant-loop-top : goal.invariant-loop-top
invariant-loop-top g l = record {
  holds : MemoHolds (g.F.Factory.costs l.setting.factory.now) l.setting.limit l.setting.core.now.nodes l.hows l.memo;
  older : KeepsWays l.fn.hows l.hows;
  missing : AreMissing l.setting.core.now.nodes l.setting.limit l.memo (length l.setting.core.now.nodes) l.pending.items;
  awaited : IsAwaited l.memo l.fn.key l.pending.items;
  paid : PaidByGaps l.setting.limit (gaps (found l.fn.memo) (length l.setting.core.now.nodes) l.setting.limit) (gaps (found l.memo) (length l.setting.core.now.nodes) l.setting.limit) l.fn.steps l.steps;
}

abbrev pub decreases-loop-top : goal.decreases-loop-top
decreases-loop-top g l =
    2 * gaps (found l.memo) (length l.setting.core.now.nodes) l.setting.limit + (length l.setting.core.now.nodes - length l.pending.items)
