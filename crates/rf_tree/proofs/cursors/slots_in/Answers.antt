-- A list's nodes stand before it, and its slots are those of its trees.
use Rattle.std.proofs.Common.{List, true, sym, subst}
use Rattle.rf_base_tree.specs.Slots.{entries_of}
use Rattle.rf_base_tree.specs.Cut.{slots_of}
use Rattle.rf_tree.specs.Slots.{NodeSlot, NodeSlotsStand, NodeSlotsBelow}
use Rattle.rf_tree.proofs.Lists.{list_nodes, list_stands, list_below}
use Rattle.rf_tree.proofs.cursors.slots_in.Goals as goal

pub begin-requires-clause-there : goal.begin-requires-clause-there
begin-requires-clause-there c =
    list_nodes c.args.tree.now c.args.list c.list_entries.result.now c.requires.tree c.requires.list c.list_entries.ensures

pub returns-clause-slots : goal.returns-clause-slots
returns-clause-slots c ts trees opener entries closer h u =
    subst (λ (ks : List NodeSlot). NodeSlotsStand ts c.args.tree.now.nodes ks (slots_of true (entries_of ts entries))) (sym c.begin.ensures.ahead)
    (list_stands c.args.tree.now c.args.list c.list_entries.result.now c.list_entries.ensures ts trees opener entries closer h u)

pub returns-clause-below : goal.returns-clause-below
returns-clause-below c =
    subst (λ (ks : List NodeSlot). NodeSlotsBelow c.args.list.0 ks) (sym c.begin.ensures.ahead)
    (list_below c.args.tree.now c.args.list c.list_entries.result.now c.requires.tree c.requires.list c.list_entries.ensures)
