-- A turn adds the lines of one slot.
use Rattle.std.proofs.Common.{Err, List, ap, subst}
use Rattle.rf_style.specs.StyleOf.{seen}
use Rattle.rf_tree.specs.Slots.{NodeSlot, read_slot}
use Rattle.rf_tree.specs.Stretches.{stretched}
use Rattle.rf_whole.proofs.Formed.{width_is_column}
use Rattle.rf_whole.proofs.TooLong.{told_long}
use Rattle.rf_whole.proofs.SoFar.{none_so_far, all_so_far, first_in_row, others_in_row, one_more, one_more_past, some_before, by_next, none_next, fewer, next_taken, is_end, AreSoFar}
use Rattle.rf_whole.proofs.groups.group_lines.Goals as goal

pub loop-next-init : goal.loop-next-init
loop-next-init g c =
    let style = seen c.args.task.now.style.now in
    let costs = g.F.Factory.costs c.args.task.now.factory.now in
    let none = none_so_far costs c.args.task.now.limit style c.args.task.now.tree.now (stretched c.args.slots) c.args.behind _ c.requires.row (c.in_ok-lines.ensures c.args.task.now.limit) in
    record {
      cursor = c.next-next.ensures.cursor;
      end = is_end _ _ _ c.next-next.ensures.next;
      so_far = subst (λ (xs : List NodeSlot). AreSoFar costs c.args.task.now.limit style c.args.task.now.tree.now (stretched c.args.slots) xs c.args.behind c.in_ok-lines.lines)
          (next_taken _ _ _ c.next-next.ensures.next) none;
    }

pub blanks_at-between-requires : goal.blanks_at-between-requires
blanks_at-between-requires g c =
    let h = by_next _ _ _ _ _ _ _ _ _ _ c.in-Some.is c.loop-next.invariant.so_far in (
      seen c.args.task.now.style.now,
      stretched c.loop-next.rest,
      stretched c.next-next-in-Some.new.self,
      c.next-next-in-Some.ensures.next,
      others_in_row (seen c.args.task.now.style.now) c.args.task.now.tree.now (read_slot c.in-Some.slot) (stretched c.loop-next.rest) h.row,
    )

pub add_slot-requires-clause-lines : goal.add_slot-requires-clause-lines
add_slot-requires-clause-lines g c =
    some_before (g.F.Factory.costs c.args.task.now.factory.now) c.args.task.now.limit (seen c.args.task.now.style.now) c.args.task.now.tree.now (stretched c.args.slots) _ c.args.behind c.loop-next.lines c.requires.row c.loop-next.invariant.so_far

pub add_slot-requires-clause-row : goal.add_slot-requires-clause-row
add_slot-requires-clause-row g c =
    let h = by_next _ _ _ _ _ _ _ _ _ _ c.in-Some.is c.loop-next.invariant.so_far in
    first_in_row (seen c.args.task.now.style.now) c.args.task.now.tree.now (read_slot c.in-Some.slot) (stretched c.loop-next.rest) h.row

pub returns-in_err-add_slot-clause-too_long : goal.returns-in_err-add_slot-clause-too_long
returns-in_err-add_slot-clause-too_long g c is =
    let style = seen c.args.task.now.style.now in
    let h = by_next _ _ _ _ _ _ _ _ _ _ c.in-Some.is c.loop-next.invariant.so_far in
    one_more_past (g.F.Factory.costs c.args.task.now.factory.now) (g.met.F.Factory.lawful c.args.task.now.factory.now) c.args.task.now.limit style c.args.task.now.tree.now (stretched c.args.slots)
    (read_slot c.in-Some.slot) (stretched c.loop-next.rest) c.args.behind c.blanks_at-between.result c.loop-next.lines (width_is_column c.args.task.now.limit c.args.task.now.width)
    (c.blanks_at-between.ensures style _ _ c.next-next-in-Some.ensures.next) (c.in_err-add_slot.ensures.too_long (ap Err (told_long _ _ c.from_residual-in_err-add_slot.ensures.1 is))) h

pub loop-next-smaller : goal.loop-next-smaller
loop-next-smaller g c = fewer _ _ _ _ _ c.in-Some.is c.next-next-in-Some.ensures.next

pub loop-next-preserved : goal.loop-next-preserved
loop-next-preserved g c =
    let style = seen c.args.task.now.style.now in
    let costs = g.F.Factory.costs c.args.task.now.factory.now in
    let h = by_next _ _ _ _ _ _ _ _ _ _ c.in-Some.is c.loop-next.invariant.so_far in
    let more = one_more costs c.args.task.now.limit style c.args.task.now.tree.now (stretched c.args.slots) (read_slot c.in-Some.slot) (stretched c.loop-next.rest) c.args.behind
    c.blanks_at-between.result c.loop-next.lines c.add_slot.new.lines (c.blanks_at-between.ensures style _ _ c.next-next-in-Some.ensures.next) c.in_ok-add_slot.ensures.lines h in
    record {
      cursor = c.next-next-in-Some.ensures.cursor;
      end = is_end _ _ _ c.next-next-in-Some.ensures.next;
      so_far = subst (λ (xs : List NodeSlot). AreSoFar costs c.args.task.now.limit style c.args.task.now.tree.now (stretched c.args.slots) xs c.args.behind c.add_slot.new.lines)
          (next_taken _ _ _ c.next-next-in-Some.ensures.next) more;
    }

pub returns-clause-lines : goal.returns-clause-lines
returns-clause-lines g c =
    all_so_far (g.F.Factory.costs c.args.task.now.factory.now) c.args.task.now.limit (seen c.args.task.now.style.now) c.args.task.now.tree.now (stretched c.args.slots) _ c.args.behind c.loop-next.lines
    (none_next _ _ c.loop-next.invariant.end c.in_default.is) c.loop-next.invariant.so_far
