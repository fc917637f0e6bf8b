-- The entries of a list, and their slots.
use Rattle.std.proofs.Common.{◌≡◌, ℕ, ◌<◌, List, true, Some, length, slice_get, sym, subst, arith}
use Rattle.std.specs.List.{AllByRecursion}
use Rattle.std.proofs.lemmas.Option.{slice_get_within}
use Rattle.rf_base_grammar.specs.Token.{Token}
use Rattle.rf_base_tree.specs.Trees.{Forest, Listed}
use Rattle.rf_base_tree.specs.Slots.{entries_of}
use Rattle.rf_base_tree.specs.Cut.{slots_of}
use Rattle.rf_tree.specs.Nodes.{UnfoldsTo, UnfoldTo}
use Rattle.rf_tree.specs.Kept.{IsTreeOf, IsTree, HasNode, HasList}
use Rattle.rf_tree.specs.Slots.{NodeSlotsStand, NodeSlotsBelow}
use Rattle.rf_tree.specs.Ahead.{node_slots}
use Rattle.rf_tree.specs.declared.nodes.At.{At}
use Rattle.rf_tree.specs.Told.{ListNode}
use Rattle.rf_tree.specs.declared.trees.Tree.{Tree}
use Rattle.rf_tree.proofs.NextSlots.{ahead_below, all_wider}
use Rattle.rf_tree.proofs.Standing.{ahead_stands}

-- these are the nodes of what stands in the list
abbrev pub AreEntries : Tree → At → List At → Type 0
AreEntries tree list ats =
    (opener : ℕ) (entries : List At) (closer : ℕ) → slice_get tree.nodes list.0 ≡ Some (ListNode opener entries closer) →
    ats ≡ entries

entries_first : (tree : Tree) (list : At) (ats : List At) → IsTree tree → HasList tree list → AreEntries tree list ats → AllByRecursion (λ at. at.0 < list.0) ats
entries_first tree list ats is has are =
    subst (λ (xs : List At). AllByRecursion (λ at. at.0 < list.0) xs) (sym (are has.0 has.1 has.2 has.3)) (is.2.sound.parts_first list.0 _ has.3)

pub list_nodes : (tree : Tree) (list : At) (ats : List At) → IsTree tree → HasList tree list → AreEntries tree list ats → AllByRecursion (HasNode tree) ats
list_nodes tree list ats is has are =
    let within = slice_get_within tree.nodes list.0 _ has.3 in
    all_wider list.0 (length tree.nodes) ats (omega (arith, within)) (entries_first tree list ats is has are)

pub list_stands : (tree : Tree) (list : At) (ats : List At) → AreEntries tree list ats → (ts : List Token) (trees : Forest) (opener : ℕ) (entries : Forest) (closer : ℕ) → IsTreeOf tree ts trees → UnfoldsTo ts tree.nodes list.0 (Listed opener entries closer) → NodeSlotsStand ts tree.nodes (node_slots tree true ats) (slots_of true (entries_of ts entries))
unfolding UnfoldsTo
list_stands tree list ats are ts trees opener entries closer h u =
    ahead_stands tree ts trees true ats entries h
    (subst (λ (xs : List At). UnfoldTo ts tree.nodes xs entries) (sym (are opener u.0 closer u.1)) u.2)

pub list_below : (tree : Tree) (list : At) (ats : List At) → IsTree tree → HasList tree list → AreEntries tree list ats → NodeSlotsBelow list.0 (node_slots tree true ats)
list_below tree list ats is has are = ahead_below tree true list.0 ats (entries_first tree list ats is has are)
