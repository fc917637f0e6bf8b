-- Laws of trees and their refusals.
use Rattle.std.specs.Prelude.{ℕ, ◌≡◌, ◌⊎◌, ◌↔◌, Bool, List}
use Rattle.rf_base_grammar.specs.Token.{Token}
use Rattle.rf_base_tree.specs.Trees.{Tree, Forest}
use Rattle.rf_base_tree.specs.Formed.{Treed}
use Rattle.rf_base_tree.specs.Refusals.{TreeRefused}
use Rattle.rf_base_tree.specs.Slots.{Entry, Slot, AreSlots}
use Rattle.rf_base_tree.specs.Separators.{Separates}
use Rattle.rf_base_tree.specs.Cut.{slots_of, separator_between}
use Rattle.rf_base_tree.specs.declared.separators.Want.{Want}
use Rattle.rf_base_tree.specs.declared.separators.Separator.{Separator}
use Rattle.rf_base_tree.specs.declared.refusals.TreeKind.{TreeKind}

-- items have at most one tree
abbrev pub OneTree : Type 0
OneTree = (ts : List Token) (a b : Forest) → Treed ts a → Treed ts b → a ≡ b

-- no items both have a tree and are refused
abbrev pub TreeOrRefusal : Type 0
TreeOrRefusal =
    (ts : List Token) (trees : Forest) (kind : TreeKind) (offset : ℕ) → Treed ts trees → TreeRefused ts kind offset → ⊥

-- items are refused for at most one reason, at one byte
abbrev pub OneTreeRefusal : Type 0
OneTreeRefusal =
    (ts : List Token) (k k' : TreeKind) (o o' : ℕ) →
    TreeRefused ts k o → TreeRefused ts k' o' → (k ≡ k') × (o ≡ o')

-- each list of items has a tree, or is refused
abbrev pub EachIsTreed : Type 0
EachIsTreed =
    (ts : List Token) →
    ((trees : Forest) × Treed ts trees) ⊎ ((kind : TreeKind) × (offset : ℕ) × TreeRefused ts kind offset)

-- trees as entries are cut into these slots exactly where these are the slots computed
abbrev pub SlotsAreComputed : Type 0
SlotsAreComputed =
    (in_list : Bool) (entries : List (Entry Tree)) (slots : List (Slot Tree)) →
    AreSlots in_list entries slots ↔ (slots ≡ slots_of in_list entries)

-- a separator stands between neighbours exactly where it is the one computed
abbrev pub SeparatorsAreComputed : Type 0
SeparatorsAreComputed =
    (a b : Token) (w : Want) (s : Separator) → Separates a b w s ↔ (s ≡ separator_between a b w)
