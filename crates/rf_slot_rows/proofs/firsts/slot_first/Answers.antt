-- The first of what the slot holds.
use Rattle.std.proofs.Common.{◌≡◌, None, Some, slice_get, sym, ap, ◌∙◌}
use Rattle.std.specs.Option.{option_copied}
use Rattle.rf_tree.specs.Slots.{read_slot}
use Rattle.rf_tree.proofs.NextSlots.{none_first}
use Rattle.rf_slot_rows.specs.Nodes.{first_or}
use Rattle.rf_slot_rows.proofs.FirstItems.{lead_there, slot_led, slot_bare}
use Rattle.rf_slot_rows.proofs.firsts.slot_first.Goals as goal

pub first_item-requires : goal.first_item-requires
first_item-requires c =
    let first : slice_get c.args.slot.leads.now 0 ≡ Some c.in-Some.at.now =
    sym c.first.ensures.value ∙ ap option_copied c.in-Some.is in
    lead_there c.requires.0 c.args.tree.now.nodes c.args.slot.leads.now c.in-Some.at.now c.requires.2.leads first c.requires.4.leads

pub returns-in-Some : goal.returns-in-Some
returns-in-Some c style quoted role ts s stands =
    let first : slice_get c.args.slot.leads.now 0 ≡ Some c.in-Some.at.now =
    sym c.first.ensures.value ∙ ap option_copied c.in-Some.is in
    slot_led style ts c.args.tree.now.nodes (read_slot c.args.slot) c.in-Some.at.now s quoted role c.first_item.result (c.first_item.ensures style ts) first stands

pub returns-in-None : goal.returns-in-None
returns-in-None c style quoted role ts s stands =
    let first : slice_get c.args.slot.leads.now 0 ≡ None =
    sym c.first.ensures.value ∙ ap option_copied c.in-None.is in
    c.first_of.ensures style ts s.key stands.key
    ∙ ap (first_or style ts s.key) (c.first_of-datum.ensures style ts s.datum stands.datum ∙ ap (first_or style ts s.datum) (c.first_of-trailing.ensures style ts s.trailing stands.trailing))
    ∙ slot_bare style ts c.args.tree.now.nodes (read_slot c.args.slot) s quoted role (none_first c.args.slot.leads.now first) stands
