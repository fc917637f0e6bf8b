-- Each comment is one more.
use Rattle.rf_base_tree.specs.Slots.{is_comment}
use Rattle.rf_tree.specs.Sorts.{entries_at}
use Rattle.rf_tree.proofs.NextSlots.{leads_more, passes_by}
use Rattle.rf_tree.proofs.cursors.split_leads.Goals as goal

pub loop-behind-preserved : goal.loop-behind-preserved
loop-behind-preserved c =
    let inv = c.loop-behind.invariant in
    let rest = c.loop-behind.rest.now in
    let passes = passes_by is_comment (entries_at c.args.tree.now rest) _ c.is_comment.result inv.sort c.is_comment.ensures in
    let more = leads_more c.args.tree.now c.loop-behind.count c.args.entries.now rest c.split_if.result.1.now c.split_if.result.0 c.in-Some-default-default.field-0-0 c.is_comment.result
    c.in-Some-default-default.is-0 inv.parts c.split_if.ensures.split passes inv.comments in
    record { within = more.within; parts = more.behind_is; comments = more.comments; there = c.split_if.ensures.there; sort = c.split_if.ensures.sort }
