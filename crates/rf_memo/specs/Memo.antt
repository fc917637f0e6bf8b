-- The memo, seen as a list with the entries of each node.
use Rattle.std.specs.Prelude.{◌≡◌, ℕ, ◌-◌, ◌<◌, ◌≤◌, ◌==◌, ◌&&◌, if◌then◌else◌, List, [], map, length, slice_index_or}
use Rattle.std.specs.Prelude.{Option, Some}
use Rattle.rf_memo.specs.declared.page.Entry.{Entry}
use Rattle.rf_memo.specs.Page.{value_at}

-- the entries of the page at the place, where 0 is no place
abbrev pub entries_at : {R : Type 0} → List (ℕ × List R) → ℕ → List R
entries_at pages place = if place == 0 then [] else (slice_index_or pages (place - 1) (0, [])).1

-- the entries of each node, whose page is at its place
unfoldable pub entries_by_node : {R : Type 0} → List ℕ → List (ℕ × List R) → List (List R)
entries_by_node places pages = map (entries_at pages) places

-- the page at a node's place is the node's
pub record OwnsPage {R : Type 0} (pages : List (ℕ × List R)) (node place : ℕ) : Type 0 where
  pub within : place ≤ length pages
  pub owner : (slice_index_or pages (place - 1) (0, [])).0 ≡ node

-- each node that has a place has a page of its own there
unfoldable pub IsOwned : {R : Type 0} → List ℕ → List (ℕ × List R) → Type 0
IsOwned places pages =
    (node : ℕ) → 0 < slice_index_or places node 0 → OwnsPage pages node (slice_index_or places node 0)

-- what was put for the node at the column and the indentation
unfoldable pub found : {V : Type 0} → List (List (Entry V)) → ℕ → ℕ → ℕ → Option V
found memo node col indent = value_at (slice_index_or memo node []) col indent

-- the new memo has the value at the key, and elsewhere what the old one has
abbrev pub PutsAt : {V : Type 0} → List (List (Entry V)) → List (List (Entry V)) → ℕ → ℕ → ℕ → V → Type 0
PutsAt old new node col indent value =
    (n c i : ℕ) →
    found new n c i ≡ (if (n == node) && ((c == col) && (i == indent)) then Some value else found old n c i)

-- the new memo has what the old one has
abbrev pub SameFound : {V : Type 0} → List (List (Entry V)) → List (List (Entry V)) → Type 0
SameFound old new = (n c i : ℕ) → found new n c i ≡ found old n c i
