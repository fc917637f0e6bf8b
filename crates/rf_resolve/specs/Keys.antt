-- Frontiers of a core's nodes.
use Rattle.std.specs.Prelude.{◌≡◌, Bool, true, false, ℕ, zero, suc, ◌+◌, ◌<◌, ◌≤◌, min, List, length, Option, None}
use Rattle.std.specs.Prelude.{Some, slice_get}
use Rattle.std.specs.Option.{option_and_then}
use Rattle.rf_base_document.specs.declared.directions.Dir.{Dir}
use Rattle.rf_base_document.specs.Graph.{GraphNode, TextNode, NewlineNode, NestNode, AlignNode, ResetNode, IsGraph}
use Rattle.rf_base_document.specs.Graph.{unfolded}
use Rattle.rf_base_cost.specs.declared.measures.Measure.{Measure}
use Rattle.rf_base_cost.specs.Cost.{Costs}
use Rattle.rf_base_optimum.specs.Plain.{plain}
use Rattle.rf_resolve.specs.declared.keys.Key.{Key}

-- the frontier of a node at a key, of resolutions within w columns
abbrev pub frontier_of : {C : Type 0} → Costs C → ℕ → List GraphNode → Key → List (Measure C (List Dir))
frontier_of costs w nodes key = plain costs w (unfolded nodes key.node) key.column key.indentation

-- a frontier may be asked for at the key: it names a node of the graph, its column is within w, and its indentation is
-- at most one more
pub record IsAsked (nodes : List GraphNode) (w : ℕ) (key : Key) : Type 0 where
  pub graph : IsGraph nodes
  pub node : key.node < length nodes
  pub column : key.column ≤ w
  pub indentation : key.indentation ≤ w + 1

-- the nodes of both keys have the same frontier there
abbrev pub SameFrontier : {C : Type 0} → Costs C → ℕ → List GraphNode → Key → Key → Type 0
SameFrontier costs w nodes key other = frontier_of costs w nodes other ≡ frontier_of costs w nodes key

-- the key of a part at this indentation
abbrev pub key_at : Key → ℕ → ℕ → Key
key_at key a indentation = record { node = a; column = key.column; indentation = indentation }

-- the key of a part with n columns more of indentation, of which those past w and 1 aren't told apart
abbrev pub nested_key : ℕ → Key → ℕ → ℕ → Key
nested_key w key n a = key_at key a (min (key.indentation + n) (w + 1))

-- the key of the part whose frontier is the node's, if the node only places a part
abbrev pub part_key : ℕ → Key → GraphNode → Option Key
part_key w key (NestNode n a) = Some (nested_key w key n a)
part_key w key (AlignNode a) = Some (key_at key a key.column)
part_key w key (ResetNode a) = Some (key_at key a 0)
part_key w key _ = None

-- the same of the node of the key
abbrev pub placed_part : List GraphNode → ℕ → Key → Option Key
placed_part nodes w key = option_and_then (part_key w key) (slice_get nodes key.node)

-- whether this is a text or a line break
abbrev pub is_leaf : Option GraphNode → Bool
is_leaf (Some (TextNode s len)) = true
is_leaf (Some NewlineNode) = true
is_leaf _ = false

-- whether the node is a text or a line break
abbrev pub leaf_at : List GraphNode → ℕ → Bool
leaf_at nodes n = is_leaf (slice_get nodes n)

-- what is seen at a part's key, or the node's own key where there is no such part
abbrev pub seen_behind : Key → Option Key → (Key → Key) → Key
seen_behind key None see = key
seen_behind key (Some part) see = see part

-- the key of the part that is seen through at most so many nodes that only place a part
unfoldable pub seen_to : ℕ → List GraphNode → ℕ → Key → Key
seen_to zero nodes w key = key
seen_to (suc more) nodes w key = seen_behind key (placed_part nodes w key) (seen_to more nodes w)

-- the key of the part that is seen
abbrev pub seen : List GraphNode → ℕ → Key → Key
seen nodes w key = seen_to 16 nodes w key

-- the key at another column
abbrev pub key_behind : Key → ℕ → Key
key_behind key column = record { node = key.node; column = column; indentation = key.indentation }
