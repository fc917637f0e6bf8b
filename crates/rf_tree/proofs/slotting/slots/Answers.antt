-- A list's nodes stand before it, and its slots are those of its trees.
use Rattle.std.proofs.Common.{List, true, sym, subst}
use Rattle.std.proofs.lemmas.Result.{IfOk-weaker}
use Rattle.rf_tree.specs.Slots.{NodeSlot, NodeSlotsStand, NodeSlotsBelow}
use Rattle.rf_base_tree.specs.Slots.{entries_of}
use Rattle.rf_base_tree.specs.Cut.{slots_of}
use Rattle.rf_tree.proofs.Lists.{list_nodes, list_stands, list_below}
use Rattle.rf_tree.proofs.slotting.slots.Goals as goal

pub cut-requires-clause-there : goal.cut-requires-clause-there
cut-requires-clause-there c =
    list_nodes c.args.tree.now c.args.list c.list_entries.result.now c.requires.tree c.requires.list c.list_entries.ensures

pub returns-clause-slots : goal.returns-clause-slots
returns-clause-slots c =
    IfOk-weaker c.cut.result _ _
    (λ slots cut ts trees opener entries closer h u.
    subst (λ (ks : List NodeSlot). NodeSlotsStand ts c.args.tree.now.nodes ks (slots_of true (entries_of ts entries))) (sym cut)
    (list_stands c.args.tree.now c.args.list c.list_entries.result.now c.list_entries.ensures ts trees opener entries closer h u))
    c.cut.ensures

pub returns-clause-below : goal.returns-clause-below
returns-clause-below c =
    IfOk-weaker c.cut.result _ _
    (λ slots cut.
    subst (λ (ks : List NodeSlot). NodeSlotsBelow c.args.list.0 ks) (sym cut)
    (list_below c.args.tree.now c.args.list c.list_entries.result.now c.requires.tree c.requires.list c.list_entries.ensures))
    c.cut.ensures
