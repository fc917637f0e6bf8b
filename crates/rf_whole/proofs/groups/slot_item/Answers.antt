-- The first item of a slot is that of its first node.
use Rattle.std.proofs.Common.{sym, ◌∙◌}
use Rattle.rf_tree.specs.Slots.{read_slot}
use Rattle.rf_whole.proofs.GroupRows.{slot_first, slot_none}
use Rattle.rf_whole.proofs.groups.slot_item.Goals as goal

pub returns-in-None : goal.returns-in-None
returns-in-None c style ts q h = sym (slot_none style ts c.args.tree.now.nodes (read_slot c.args.slot) q h (sym c.first_node.ensures ∙ c.in-None.is))

pub returns-in-Some : goal.returns-in-Some
returns-in-Some c style ts q h =
    let first = slot_first style ts c.args.tree.now.nodes (read_slot c.args.slot) q c.in-Some.at h (sym c.first_node.ensures ∙ c.in-Some.is) in
    c.first_item.ensures style ts first.0 first.1 ∙ sym first.2
