-- The lines are those up to the item of the number.
use Rattle.std.proofs.Common.{◌≡◌, ◌≤◌, ◌-◌, length}
use Rattle.rf_whole.specs.Parts.{HasLinesTo}
use Rattle.rf_whole.proofs.parts.parts_lines.Given as goal

abbrev pub invariant-loop-next : goal.invariant-loop-next
invariant-loop-next g l = record {
  src : l.tree.src.now ≡ l.fn.tree.src.now;
  items : l.tree.items ≡ l.fn.tree.items;
  within : l.next ≤ length l.tree.items.items;
  lines : HasLinesTo (g.F.Factory.costs l.setting.factory.now) l.setting l.fn.tree l.next l.lines;
}

abbrev pub decreases-loop-next : goal.decreases-loop-next
decreases-loop-next g l = length l.tree.items.items - l.next
