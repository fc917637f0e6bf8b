-- The first slot is taken away, if there is one.
use Rattle.rf_tree.proofs.NextSlots.{next_ahead, none_ahead, none_left}
use Rattle.rf_tree.proofs.cursors.Slots.next.Goals as goal

pub returns-then-is_empty-clause-next : goal.returns-then-is_empty-clause-next
returns-then-is_empty-clause-next c =
    let self = c.args.self.now in
    let none = none_ahead self.tree.now self.in_list self.entries.now (none_left self.entries.now c.is_empty.result c.is_empty.ensures c.if-is_empty.true) in
    (none, none)

pub returns-clause-next : goal.returns-clause-next
returns-clause-next c =
    let self = c.args.self.now in
    next_ahead self.tree.now self.in_list self.entries.now c.next_slot-sort.result.1.now c.next_slot-sort.result.0 c.next_slot-sort.ensures.next
