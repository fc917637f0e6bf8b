-- Which slots the program's slots stand for.
use Rattle.std.specs.Prelude.{ℕ, ◌<◌, Option, None, Some, List, [], ◌∷◌, ◌++◌, map, ⊤}
use Rattle.std.specs.List.{AllByRecursion}
use Rattle.rf_base_grammar.specs.Token.{Token}
use Rattle.rf_base_tree.specs.Trees.{Tree}
use Rattle.rf_base_tree.specs.Slots.{Entry, perhaps}
use Rattle.rf_base_tree.specs.Slots as definition
use Rattle.rf_tree.specs.Nodes.{UnfoldsTo}
use Rattle.rf_tree.specs.declared.nodes.At.{At}
use Rattle.rf_tree.specs.Told.{Node}
use Rattle.rf_tree.specs.declared.cursors.SlotRef.{SlotRef}
use Rattle.rf_tree.specs.declared.slotting.Slot.{Slot}

-- the nodes, unfolded, are the trees of these entries, in order
abbrev pub NodesStand : List Token → List Node → List At → List (Entry Tree) → Type 0
NodesStand ts nodes [] [] = ⊤
NodesStand ts nodes [] (e ∷ entries) = ⊥
NodesStand ts nodes (at ∷ ats) [] = ⊥
NodesStand ts nodes (at ∷ ats) (e ∷ entries) = UnfoldsTo ts nodes at.0 e.what × NodesStand ts nodes ats entries

-- the node, unfolded, is the tree of this entry, or neither is there
abbrev pub NodeStands : List Token → List Node → Option At → Option (Entry Tree) → Type 0
NodeStands ts nodes None None = ⊤
NodeStands ts nodes (Some at) (Some e) = UnfoldsTo ts nodes at.0 e.what
NodeStands ts nodes _ _ = ⊥

-- a slot as the nodes of its parts
pub record NodeSlot : Type 0 where
  pub leads : List At
  pub key : Option At
  pub datum : Option At
  pub trailing : Option At

-- the nodes of a slot, and of one whose comments stand where they stand
abbrev pub kept_slot : Slot → NodeSlot
kept_slot s = record { leads = s.leads.items; key = s.key; datum = s.datum; trailing = s.trailing }

abbrev pub read_slot : SlotRef → NodeSlot
read_slot s = record { leads = s.leads.now; key = s.key; datum = s.datum; trailing = s.trailing }

-- the nodes of a slot, unfolded, are the trees of this slot, each in its place
pub record NodeSlotStands (ts : List Token) (nodes : List Node) (kept : NodeSlot)
    (slot : definition.Slot Tree) : Type 0 where
  pub leads : NodesStand ts nodes kept.leads slot.leads
  pub key : NodeStands ts nodes kept.key slot.key
  pub datum : NodeStands ts nodes kept.datum slot.datum
  pub trailing : NodeStands ts nodes kept.trailing slot.trailing

-- the same of slots in order
abbrev pub NodeSlotsStand : List Token → List Node → List NodeSlot → List (definition.Slot Tree) → Type 0
NodeSlotsStand ts nodes [] [] = ⊤
NodeSlotsStand ts nodes [] (s ∷ slots) = ⊥
NodeSlotsStand ts nodes (k ∷ kept) [] = ⊥
NodeSlotsStand ts nodes (k ∷ kept) (s ∷ slots) = NodeSlotStands ts nodes k s × NodeSlotsStand ts nodes kept slots

-- the same of slots with comments of their own
abbrev pub SlotStands : List Token → List Node → Slot → definition.Slot Tree → Type 0
SlotStands ts nodes kept slot = NodeSlotStands ts nodes (kept_slot kept) slot

abbrev pub SlotsStand : List Token → List Node → List Slot → List (definition.Slot Tree) → Type 0
SlotsStand ts nodes kept slots = NodeSlotsStand ts nodes (map kept_slot kept) slots

-- a slot's nodes, in order
abbrev pub parts_in : NodeSlot → List At
parts_in s = s.leads ++ perhaps s.key (perhaps s.datum (perhaps s.trailing []))

abbrev pub slot_nodes : Slot → List At
slot_nodes s = parts_in (kept_slot s)

-- each node of the slots is among the first n
abbrev pub NodeSlotsBelow : ℕ → List NodeSlot → Type 0
NodeSlotsBelow n slots = AllByRecursion (λ s. AllByRecursion (λ at. at.0 < n) (parts_in s)) slots

abbrev pub SlotsBelow : ℕ → List Slot → Type 0
SlotsBelow n slots = NodeSlotsBelow n (map kept_slot slots)
