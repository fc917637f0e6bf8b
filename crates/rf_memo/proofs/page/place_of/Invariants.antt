-- The entries before `low` come before the place, and those from `high` begin at it or behind.
use Rattle.std.proofs.Common.{◌≤◌, ◌-◌, length, take, drop}
use Rattle.rf_memo.specs.Page.{EachBefore, StartsFrom}
use Rattle.rf_memo.proofs.page.place_of.Given as goal

abbrev pub invariant-loop-low : goal.invariant-loop-low
invariant-loop-low g l = record {
  order : l.low ≤ l.high;
  within : l.high ≤ length l.entries;
  before : EachBefore l.col l.indent (take l.low l.entries);
  behind : StartsFrom l.col l.indent (drop l.high l.entries);
}

abbrev pub decreases-loop-low : goal.decreases-loop-low
decreases-loop-low g l = l.high - l.low
