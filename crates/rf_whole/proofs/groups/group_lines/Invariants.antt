-- The lines are those of the slots before the rest, which gets shorter.
use Rattle.std.proofs.Common.{length}
use Rattle.rf_style.specs.StyleOf.{seen}
use Rattle.rf_tree.specs.Stretches.{stretched, IsStretch}
use Rattle.rf_whole.proofs.SoFar.{AreSoFar, IsEnd, with_next}
use Rattle.rf_whole.proofs.groups.group_lines.Given as goal

abbrev pub invariant-loop-next : goal.invariant-loop-next
invariant-loop-next g l = record {
  cursor : IsStretch l.rest;
  end : IsEnd l.next (stretched l.rest);
  so_far :
      AreSoFar (g.F.Factory.costs l.task.factory.now) l.task.limit (seen l.task.style.now) l.task.tree.now (stretched l.slots) (with_next l.next (stretched l.rest)) l.behind l.lines;
}

abbrev pub decreases-loop-next : goal.decreases-loop-next
decreases-loop-next g l = length (with_next l.next (stretched l.rest))
