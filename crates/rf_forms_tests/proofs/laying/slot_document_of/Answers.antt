-- The first slot that stands at the top is one of the tree, and the style without a style file has its numbers in their
-- ranges.
use Rattle.std.proofs.Common.{◌≡◌, ◌<◌, false, List, [], ◌∷◌, length, get_or, ap, sym, subst, arith}
use Rattle.rf_base_grammar.specs.Token.{Token}
use Rattle.rf_base_style.specs.Table.{IsStyle}
use Rattle.rf_base_style.proofs.Tables.{defaults_are_style}
use Rattle.rf_base_tree.specs.Cut.{slots_of}
use Rattle.rf_base_tree.specs.Slots as definition
use Rattle.rf_base_tree.specs.Slots.{entries_of}
use Rattle.rf_base_tree.specs.Trees.{Tree, Forest}
use Rattle.rf_style.specs.StyleOf.{seen}
use Rattle.rf_style.specs.declared.style.Style.{Style}
use Rattle.rf_tree.specs.Kept.{IsTreeOf}
use Rattle.rf_tree.specs.Slots.{SlotsStand, SlotsBelow}
use Rattle.rf_tree.specs.declared.slotting.Slot.{Slot}
use Rattle.rf_tree.specs.declared.trees.Tree.{Tree as KeptTree}
use Rattle.rf_ways.specs.Tops.{IsTop}
use Rattle.rf_forms_tests.proofs.laying.slot_document_of.Goals as goal

first_top : (tree : KeptTree) (ts : List Token) (trees : Forest) (kept : List Slot) (ss : List (definition.Slot Tree))
    (slot : Slot) → 0 < length kept → slot ≡ get_or kept 0 slot → IsTreeOf tree ts trees →
    SlotsStand ts tree.nodes kept ss → SlotsBelow (length tree.nodes) kept → IsTop tree slot
first_top tree ts trees [] ss slot some first is stand below = absurd (omega (arith, some))
first_top tree ts trees (k ∷ kept) [] slot some first is stand below = absurd stand
first_top tree ts trees (k ∷ kept) (s ∷ ss) slot some first is stand below =
    subst (IsTop tree) (sym first) (ts, trees, s, is, stand.0, below.0)

pub style_doc-requires-clause-top : goal.style_doc-requires-clause-top
style_doc-requires-clause-top c =
    let tree = c.in_ok-tree.tree in
    let file = c.in_ok-tree.ensures in
    let slots = c.in_ok-slots.slots.items in
    let shown : c.as_slice.result.now ≡ slots = c.as_slice.ensures.value in
    first_top tree file.0 file.1 slots (slots_of false (entries_of file.0 file.1)) c.slot-item.result
    (omega (arith, c.in-len1-up.len_at_least, ap length shown))
    (subst (λ (l : List Slot). c.slot-item.result ≡ get_or l 0 c.slot-item.result) shown c.slot-item.is) file.2
    (c.in_ok-slots.ensures.slots file.0 file.1 file.2) c.in_ok-slots.ensures.below

pub style_doc-requires-clause-style : goal.style_doc-requires-clause-style
style_doc-requires-clause-style c = subst (λ (s : Style). IsStyle (seen s)) (sym c.in_ok-style.ensures) defaults_are_style
