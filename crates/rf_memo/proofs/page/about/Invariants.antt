-- The entries from `high` begin at the place or behind it.
use Rattle.std.proofs.Common.{◌≤◌, length, drop}
use Rattle.rf_memo.specs.Page.{StartsFrom}
use Rattle.rf_memo.proofs.page.about.Given as goal

abbrev pub invariant-loop-step : goal.invariant-loop-step
invariant-loop-step g l = record {
  some : 1 ≤ l.step;
  within : l.high ≤ length l.entries;
  behind : StartsFrom l.col l.indent (drop l.high l.entries);
}

abbrev pub decreases-loop-step : goal.decreases-loop-step
decreases-loop-step g l = l.high
