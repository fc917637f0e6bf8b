-- The file's slots are those of its entries.
use Rattle.std.proofs.Common.{false, List, sym, subst}
use Rattle.rf_base_tree.specs.Trees.{Tree}
use Rattle.rf_base_tree.specs.Slots.{entries_of}
use Rattle.rf_base_tree.specs.Slots as definition
use Rattle.rf_base_tree.specs.Cut.{slots_of}
use Rattle.rf_base_file.specs.FileDocument.{file_doc}
use Rattle.rf_style.specs.StyleOf.{seen}
use Rattle.rf_tree.specs.Slots.{SlotsStand}
use Rattle.rf_tree.specs.declared.slotting.Slot.{Slot}
use Rattle.rf_rows.specs.Sizes.{rows_size}
use Rattle.rf_rows.proofs.Stacks.{on_ok}
use Rattle.rf_slot_rows.proofs.Growing.{kept_few}
use Rattle.rf_slot_rows.proofs.Sizes.{file_grown}
use Rattle.rf_slot_rows.proofs.files.file_rows.Goals as goal

pub put_file-requires-clause-slots : goal.put_file-requires-clause-slots
put_file-requires-clause-slots c =
    let t = c.requires.tree in
    let ss : List (definition.Slot Tree) = slots_of false (entries_of t.0 t.1) in
    (t.0, t.1, ss, t.2, subst (λ (ks : List Slot). SlotsStand t.0 c.args.tree.now.nodes ks ss) (sym c.deref.ensures.value) (c.in_ok-slots.ensures.slots t.0 t.1 t.2))

pub returns-clause-put : goal.returns-clause-put
unfolding file_doc
returns-clause-put c =
    on_ok c.put_file.result _ _
    (λ made ts trees holds.
    let ss : List (definition.Slot Tree) = slots_of false (entries_of ts trees) in
    made ts trees ss holds (subst (λ (ks : List Slot). SlotsStand ts c.args.tree.now.nodes ks ss) (sym c.deref.ensures.value) (c.in_ok-slots.ensures.slots ts trees holds)))
    c.put_file.ensures.put

pub returns-clause-free : goal.returns-clause-free
returns-clause-free c =
    let t = c.requires.tree in on_ok c.put_file.result _ _ (λ put. (put t.0 t.1 t.2).free) (returns-clause-put c)

pub returns-clause-grown : goal.returns-clause-grown
returns-clause-grown c =
    on_ok c.put_file.result _ _
    (λ made ts trees read holds.
    let ss : List (definition.Slot Tree) = slots_of false (entries_of ts trees) in
    let few = kept_few (seen c.args.style.now) c.args.tree.now ts trees c.requires.style.blanks read holds in
    file_grown ts trees (rows_size c.args.rows.now) (rows_size c.put_file.new.rows)
    (made few ts trees ss holds (subst (λ (ks : List Slot). SlotsStand ts c.args.tree.now.nodes ks ss) (sym c.deref.ensures.value) (c.in_ok-slots.ensures.slots ts trees holds))))
    c.put_file.ensures.grown
