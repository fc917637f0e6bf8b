-- Where the cores of a graph's nodes stand while a core is made.
use Rattle.std.specs.Prelude.{◌≡◌, ℕ, ◌+◌, ◌*◌, ◌≤◌, Bool, true, false, List, [], ◌∷◌, ◌++◌, length, Option, None, Some}
use Rattle.std.specs.Prelude.{slice_get, ⊤}
use Rattle.rf_base_document.specs.declared.directions.Dir.TheVariants.{Left, Right}
use Rattle.rf_base_document.specs.Document.{Doc}
use Rattle.rf_base_document.specs.Simple.{simple}
use Rattle.rf_base_document.specs.Graph.{GraphNode, TextNode, NewlineNode, IsGraph, StandsFor, NodeKeepsLimits}
use Rattle.rf_base_document.specs.Graph.{parts_end, unfolded}
use Rattle.rf_flat.specs.declared.cores.CoreNode.{CoreNode}
use Rattle.rf_flat.specs.declared.cores.CoreNode.TheVariants.{Newline, Concat, Choice, Only}
use Rattle.rf_flat.specs.declared.simple_nodes.Places.{Places}
use Rattle.rf_flat.specs.declared.simple_nodes.Made.{Made}
use Rattle.rf_flat.specs.declared.simple_nodes.Made.TheVariants.{Nothing, Older, Newer}
use Rattle.rf_flat.specs.Cores.{core_node}

-- the place is none where there is no core, and otherwise that of a node that stands for the core
abbrev pub Placed : List GraphNode → Option Doc → Option ℕ → Type 0
Placed nodes None None = ⊤
Placed nodes (Some s) (Some place) = StandsFor nodes place s
Placed nodes _ _ = ⊥

-- the place of the core that is flat, or of the one that isn't
abbrev pub place_of : Places → Bool → Option ℕ
place_of places true = places.flat
place_of places false = places.broken

-- the core, flat or not, of node n of the graph
abbrev pub core_at : List GraphNode → ℕ → Bool → Option Doc
core_at graph n flat = simple (unfolded graph n) flat

-- the places of a node's core, flat and not
abbrev pub BothPlaced : List GraphNode → List GraphNode → ℕ → Places → Type 0
BothPlaced graph nodes n places =
    Placed nodes (core_at graph n false) places.broken × Placed nodes (core_at graph n true) places.flat

-- the places are those of the graph's first nodes, in order
unfoldable pub ArePlaced : List GraphNode → List GraphNode → List Places → Type 0
ArePlaced graph nodes all = (n : ℕ) (places : Places) → slice_get all n ≡ Some places → BothPlaced graph nodes n places

-- the new node's parts stand in the core, and at its end it stands for s
abbrev pub NewStandsFor : List GraphNode → CoreNode → Doc → Type 0
NewStandsFor nodes node s =
    (parts_end (core_node node) ≤ length nodes) × NodeKeepsLimits (core_node node)
    × StandsFor (nodes ++ core_node node ∷ []) (length nodes) s

-- what is to be done for a core: nothing where there is none, and otherwise to take an older node, or to add one
abbrev pub Makes : List GraphNode → Option Doc → Made → Type 0
Makes nodes None Nothing = ⊤
Makes nodes (Some s) (Older place) = StandsFor nodes place s
Makes nodes (Some s) (Newer node) = NewStandsFor nodes node s
Makes nodes _ _ = ⊥

-- what is done for a concatenation whose parts stand at these places, and for a choice
abbrev pub concat_made : Option ℕ → Option ℕ → Made
concat_made (Some a) (Some b) = Newer (Concat a b)
concat_made _ _ = Nothing

abbrev pub choice_made : Option ℕ → Option ℕ → Made
choice_made None None = Nothing
choice_made None (Some b) = Newer (Only Right b)
choice_made (Some a) None = Newer (Only Left a)
choice_made (Some a) (Some b) = Newer (Choice a b)

-- the node of a newline, flat or not
abbrev pub newline_made : Bool → GraphNode
newline_made true = TextNode (32 ∷ []) 1
newline_made false = NewlineNode

-- what is done for a hard newline, flat or not
abbrev pub hard_made : Bool → Made
hard_made true = Nothing
hard_made false = Newer Newline

-- the new nodes are the old ones, and others after them
abbrev pub Grows : List GraphNode → List GraphNode → Type 0
Grows old new = (more : List GraphNode) × (new ≡ old ++ more)

-- the nodes are a graph in which the core, not flat, of node n of the other graph has this place, and are at most two
-- for each of its nodes up to n
abbrev pub HoldsCore : List GraphNode → ℕ → List GraphNode → Option ℕ → Type 0
HoldsCore graph n nodes place =
    IsGraph nodes × Placed nodes (core_at graph n false) place × (length nodes ≤ 2 * (n + 1))
