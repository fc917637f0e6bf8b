-- A slot in no list, quoted by nothing.
use Rattle.std.proofs.Common.{◌<◌, length, sym, subst}
use Rattle.std.proofs.lemmas.Result.{IfOk-weaker}
use Rattle.rf_base_file.specs.Rows.{Part, slot_part}
use Rattle.rf_style.specs.StyleOf.{seen}
use Rattle.std.specs.List.{AllByRecursion}
use Rattle.rf_tree.specs.Slots.{NodeSlot, NodeSlotStands, parts_in, read_slot}
use Rattle.rf_rows.proofs.Stacks.{on_ok}
use Rattle.rf_ways.specs.Nodes.{slot_of, IsSlot}
use Rattle.rf_slot_rows.specs.Nodes.{PartPut}
use Rattle.rf_ways.specs.declared.places.Place.{Place}
use Rattle.rf_slot_rows.proofs.Walking.{top_is}
use Rattle.rf_slot_rows.proofs.tops.put_top.Goals as goal

pub put_slot-requires-clause-slot : goal.put_slot-requires-clause-slot
put_slot-requires-clause-slot c =
    let top = c.requires.top in
    subst (λ (k : NodeSlot). IsSlot c.args.context.now.tree.now k) (sym c.as_ref.ensures) (top.0, top.1, top.2, top.3, top.4)

pub put_slot-requires-clause-before : goal.put_slot-requires-clause-before
put_slot-requires-clause-before c =
    let nodes = c.args.context.now.tree.now.nodes in
    subst (λ (p : Place). AllByRecursion (λ at. at.0 < p.before) (parts_in (read_slot c.as_ref.result))) (sym c.top_place.ensures)
    (subst (λ (k : NodeSlot). AllByRecursion (λ at. at.0 < length nodes) (parts_in k)) (sym c.as_ref.ensures) c.requires.top.5)

pub returns-clause-put : goal.returns-clause-put
returns-clause-put c =
    IfOk-weaker c.put_slot.result _ _
    (λ last made ts trees s holds stands.
    let style = seen c.args.context.now.style.now in
    subst (λ (p : Part). PartPut p c.args.rows.now c.put_slot.new.rows last) (top_is style ts s)
    (subst (λ (p : Place). PartPut (slot_part ts (slot_of style ts p.quoted p.role s)) c.args.rows.now c.put_slot.new.rows last) c.top_place.ensures
    (made ts trees s holds (subst (λ (k : NodeSlot). NodeSlotStands ts c.args.context.now.tree.now.nodes k s) (sym c.as_ref.ensures) stands))))
    c.put_slot.ensures.put

pub returns-clause-grown : goal.returns-clause-grown
returns-clause-grown c =
    on_ok c.put_slot.result _ _
    (λ made few ts trees s holds stands.
    made few ts trees s holds (subst (λ (k : NodeSlot). NodeSlotStands ts c.args.context.now.tree.now.nodes k s) (sym c.as_ref.ensures) stands))
    c.put_slot.ensures.grown
