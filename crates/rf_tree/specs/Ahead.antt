-- The slots that are still to come.
use Rattle.std.specs.Prelude.{◌≡◌, Bool, Option, None, Some, List, [], ◌∷◌, map, ⊤}
use Rattle.std.specs.List.{AllByRecursion}
use Rattle.std.specs.Option.{option_map}
use Rattle.rf_base_tree.specs.Slots as definition
use Rattle.rf_base_tree.specs.Cut.{slots_of}
use Rattle.rf_tree.specs.Kept.{IsTree, HasNode}
use Rattle.rf_tree.specs.Slots.{NodeSlot, parts_in, read_slot}
use Rattle.rf_tree.specs.Sorts.{sort_told, entries_at, first_sort}
use Rattle.rf_tree.specs.declared.nodes.At.{At}
use Rattle.rf_tree.specs.declared.trees.Tree.{Tree}
use Rattle.rf_tree.specs.declared.cursors.SlotRef.{SlotRef}
use Rattle.rf_tree.specs.declared.cursors.Slots.{Slots}

-- a slot of nodes without their sorts
abbrev pub bare_slot : definition.Slot At → NodeSlot
bare_slot s =
    record {
      leads = map (λ e. e.what) s.leads;
      key = option_map (λ e. e.what) s.key;
      datum = option_map (λ e. e.what) s.datum;
      trailing = option_map (λ e. e.what) s.trailing;
    }

-- the slots that these entries of a list, or of the file, are cut into
unfoldable pub node_slots : Tree → Bool → List At → List NodeSlot
node_slots tree in_list entries = map bare_slot (slots_of in_list (entries_at tree entries))

-- the slots that are still to come
abbrev pub slots_ahead : Slots → List NodeSlot
slots_ahead slots = node_slots slots.tree.now slots.in_list slots.entries.now

-- the entries that are left are there, and the first is of the sort that is kept
pub record IsCursor (slots : Slots) : Type 0 where
  pub tree : IsTree slots.tree.now
  pub there : AllByRecursion (HasNode slots.tree.now) slots.entries.now
  pub sort : option_map sort_told slots.sort ≡ first_sort (entries_at slots.tree.now slots.entries.now)

-- this is the first of the slots and these are behind it, or there are none
abbrev pub TakesFirst : List NodeSlot → Option SlotRef → List NodeSlot → Type 0
TakesFirst slots None rest = (slots ≡ []) × (rest ≡ [])
TakesFirst slots (Some slot) rest = slots ≡ read_slot slot ∷ rest

-- the slot of this datum with this comment behind it, if there is one, and the slot of the datum alone
abbrev pub datum_slot : At → Option At → NodeSlot
datum_slot at trailing = record { leads = []; key = None; datum = Some at; trailing = trailing }

abbrev pub alone_slot : At → NodeSlot
alone_slot at = datum_slot at None

-- this is the first of the slots, which is a datum alone, and these are behind it, or none was taken
abbrev pub TakesAlone : List NodeSlot → Option At → List NodeSlot → Type 0
TakesAlone slots None rest = slots ≡ rest
TakesAlone slots (Some at) rest = slots ≡ alone_slot at ∷ rest

-- the first of the slots begins with this datum, or nothing is said
abbrev pub BeginWithDatum : List NodeSlot → Option At → Type 0
BeginWithDatum slots None = ⊤
BeginWithDatum slots (Some at) =
    (trailing : Option At) × (rest : List NodeSlot) × (slots ≡ datum_slot at trailing ∷ rest)

-- the first of the slots begins with this node, or there are none
abbrev pub BeginWith : List NodeSlot → Option At → Type 0
BeginWith slots None = slots ≡ []
BeginWith slots (Some at) =
    (slot : NodeSlot) × (rest : List NodeSlot) × (others : List At) × (slots ≡ slot ∷ rest)
    × (parts_in slot ≡ at ∷ others)
