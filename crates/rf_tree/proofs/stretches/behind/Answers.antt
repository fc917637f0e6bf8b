-- A turn reads one slot more, and where none is left, none is behind.
use Rattle.std.proofs.Common.{arith}
use Rattle.rf_tree.specs.Stretches.{stretched}
use Rattle.rf_tree.proofs.FirstAhead.{none_behind, one_behind}
use Rattle.rf_tree.proofs.stretches.behind.Goals as goal

pub returns-then-is_none-clause-slots : goal.returns-then-is_none-clause-slots
returns-then-is_none-clause-slots c =
    none_behind c.loop.counter c.args.n (stretched c.args.slots) (stretched c.loop.rest) (stretched c.next.new.self) c.next.result (omega arith) c.loop.invariant.slots c.next.ensures.next
    c.if-is_none.ensures

pub loop-preserved : goal.loop-preserved
loop-preserved c = record {
  cursor = c.next.ensures.cursor;
  slots = one_behind c.loop.counter (stretched c.args.slots) (stretched c.loop.rest) (stretched c.next.new.self) c.next.result c.loop.invariant.slots c.next.ensures.next;
}
