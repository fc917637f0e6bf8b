-- The nodes at the top are there, and their slots are those of the file's trees.
use Rattle.std.proofs.Common.{◌<◌, List, false, length, sym, subst}
use Rattle.std.specs.List.{AllByRecursion}
use Rattle.std.proofs.lemmas.Result.{IfOk-weaker}
use Rattle.rf_tree.specs.Nodes.{UnfoldTo}
use Rattle.rf_tree.specs.declared.nodes.At.{At}
use Rattle.rf_tree.proofs.Unfolding.{UnfoldTo-below}
use Rattle.rf_base_tree.specs.Slots.{entries_of}
use Rattle.rf_base_tree.specs.Cut.{slots_of}
use Rattle.rf_tree.specs.Slots.{NodeSlot, NodeSlotsStand, NodeSlotsBelow}
use Rattle.rf_tree.proofs.NextSlots.{ahead_below}
use Rattle.rf_tree.proofs.Standing.{ahead_stands}
use Rattle.rf_tree.proofs.slotting.tops.Goals as goal

pub cut-requires-clause-there : goal.cut-requires-clause-there
cut-requires-clause-there c =
    subst (λ (ats : List At). AllByRecursion (λ at. at.0 < length c.args.tree.now.nodes) ats) (sym c.deref.ensures.value)
    (UnfoldTo-below c.requires.0 c.args.tree.now.nodes c.args.tree.now.tops.items c.requires.1 c.requires.2.stand_for)

pub returns-clause-slots : goal.returns-clause-slots
returns-clause-slots c =
    IfOk-weaker c.cut.result _ _
    (λ slots cut ts trees h.
    subst (λ (ks : List NodeSlot). NodeSlotsStand ts c.args.tree.now.nodes ks (slots_of false (entries_of ts trees))) (sym cut)
    (ahead_stands c.args.tree.now ts trees false c.deref.result.now trees h
    (subst (λ (ats : List At). UnfoldTo ts c.args.tree.now.nodes ats trees) (sym c.deref.ensures.value) h.stand_for)))
    c.cut.ensures

pub returns-clause-below : goal.returns-clause-below
returns-clause-below c =
    let n = length c.args.tree.now.nodes in
    let there = UnfoldTo-below c.requires.0 c.args.tree.now.nodes c.args.tree.now.tops.items c.requires.1 c.requires.2.stand_for in
    IfOk-weaker c.cut.result _ _
    (λ slots cut.
    subst (λ (ks : List NodeSlot). NodeSlotsBelow n ks) (sym cut)
    (ahead_below c.args.tree.now false n c.deref.result.now
    (subst (λ (ats : List At). AllByRecursion (λ at. at.0 < n) ats) (sym c.deref.ensures.value) there)))
    c.cut.ensures
