-- The size of what stands in a tree: its items, and the line ends in their spellings.
use Rattle.std.specs.Prelude.{ℕ, ◌+◌, List, sum_by}
use Rattle.std.specs.List.{flat_map}
use Rattle.rf_base_grammar.specs.Token.{Token}
use Rattle.rf_base_grammar.specs.Itemised.{line_ends}
use Rattle.rf_base_tree.specs.Trees.{Tree, spelling_at, tree_items}
use Rattle.rf_base_tree.specs.Slots.{Entry, Slot, slot_entries}

-- how many items these are, and how many line ends their spellings hold, together
abbrev pub size_of : List Token → List ℕ → ℕ
size_of ts items = sum_by (λ item. line_ends (spelling_at ts item) + 1) items

-- the numbers of the items of entries, in order
abbrev pub entries_items : List (Entry Tree) → List ℕ
entries_items entries = flat_map (λ e. tree_items e.what) entries

-- the entries of slots, in order
abbrev pub slots_entries : List (Slot Tree) → List (Entry Tree)
slots_entries slots = flat_map slot_entries slots
