-- Which nodes of a graph one of them reaches, while they are marked.
use Rattle.std.specs.Prelude.{◌≡◌, ℕ, ◌+◌, ◌<◌, ◌≤◌, ◌⊎◌, Bool, true, false, List, length, slice_index_or}
use Rattle.rf_base_document.specs.Graph.{GraphNode, IsNode}
use Rattle.rf_flat.specs.Cores.{IsPart}

-- node n is marked
abbrev pub IsMarked : List Bool → ℕ → Type 0
IsMarked marks n = slice_index_or marks n false ≡ true

-- the marks are the older ones and those of the node's parts
pub record MarksParts (node : GraphNode) (old new : List Bool) : Type 0 where
  pub older : (n : ℕ) → IsMarked old n → IsMarked new n
  pub parts : (n : ℕ) → IsPart node n → IsMarked new n
  pub no_more : (n : ℕ) → IsMarked new n → IsMarked old n ⊎ IsPart node n

-- the root is marked, the parts of the marked nodes from this one on are, and each marked node but the root is a part
-- of a later one that is marked; no node after the root is
pub record MarkedDownTo (graph : List GraphNode) (root from : ℕ) (marks : List Bool) : Type 0 where
  pub count : length marks ≡ root + 1
  pub root_is : IsMarked marks root
  pub closed : (n m : ℕ) (node : GraphNode) → from ≤ n → IsMarked marks n → IsNode graph n node → IsPart node m →
      IsMarked marks m
  pub only : (n : ℕ) → IsMarked marks n → n < root →
      (m : ℕ) × (node : GraphNode) × (n < m) × IsMarked marks m × IsNode graph m node × IsPart node n
