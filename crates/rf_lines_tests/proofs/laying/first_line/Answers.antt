-- The first of the slots is one of the tree.
use Rattle.std.proofs.Common.{◌≡◌, false, List, [], ◌∷◌, length, sym, ◌∙◌, subst}
use Rattle.rf_base_grammar.specs.Token.{Token}
use Rattle.rf_base_tree.specs.Trees.{Tree}
use Rattle.rf_base_tree.specs.Slots as definition
use Rattle.rf_base_tree.specs.Slots.{entries_of}
use Rattle.rf_base_tree.specs.Cut.{slots_of}
use Rattle.rf_tree.specs.Slots.{SlotStands, SlotsStand, SlotsBelow}
use Rattle.rf_tree.specs.declared.slotting.Slot.{Slot}
use Rattle.rf_tree.specs.Told.{Node}
use Rattle.rf_lines_tests.proofs.laying.first_line.Goals as goal

first_stands : (ts : List Token) (nodes : List Node) (k : Slot) (kept : List Slot) (ss : List (definition.Slot Tree)) → SlotsStand ts nodes (k ∷ kept) ss →
    (s : definition.Slot Tree) × SlotStands ts nodes k s
first_stands ts nodes k kept [] h = absurd h
first_stands ts nodes k kept (s ∷ ss) h = (s, h.0)

pub slot_line-requires-clause-top : goal.slot_line-requires-clause-top
slot_line-requires-clause-top c =
    let tree = c.args.tree.now in
    let nodes = tree.nodes in
    let ts = c.requires.tree.0 in
    let trees = c.requires.tree.1 in
    let holds = c.requires.tree.2 in
    let slot = c.in-Some.slot.now in
    let rest = c.in-Some.field-0-1.now in
    let cut : c.in_ok-slots.slots.items ≡ slot ∷ rest = sym c.deref.ensures.value ∙ c.in-Some.ensures.cases.0 in
    let first = first_stands ts nodes slot rest (slots_of false (entries_of ts trees))
    (subst (λ (ks : List Slot). SlotsStand ts nodes ks (slots_of false (entries_of ts trees))) cut (c.in_ok-slots.ensures.slots ts trees holds)) in
    let below = subst (λ (ks : List Slot). SlotsBelow (length nodes) ks) cut c.in_ok-slots.ensures.below in
    (ts, trees, first.0, holds, first.1, below.0)
