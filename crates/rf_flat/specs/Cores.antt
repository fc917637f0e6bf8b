-- Cores as graphs: what their nodes mean, and which nodes a core's root reaches.
use Rattle.std.specs.Prelude.{◌≡◌, ℕ, ◌+◌, ◌<◌, ◌⊎◌, List, length, map}
use Rattle.std.specs.Str.{chars}
use Rattle.rf_base_document.specs.Graph.{GraphNode, TextNode, NewlineNode, HardNode, ConcatNode, NestNode, AlignNode}
use Rattle.rf_base_document.specs.Graph.{ResetNode, FlattenNode, ChoiceNode, OnlyNode, ChargeNode, IsNode, IsGraph}
use Rattle.rf_flat.specs.declared.cores.CoreNode.{CoreNode}
use Rattle.rf_flat.specs.declared.cores.CoreNode.TheVariants.{Text, Newline, Concat, Nest, Align, Reset, Choice, Only}
use Rattle.rf_flat.specs.declared.cores.CoreNode.TheVariants.{Charge}

-- the graph's node that a core's node is
abbrev pub core_node : CoreNode → GraphNode
core_node (Text s len) = TextNode (chars s.now) len
core_node Newline = NewlineNode
core_node (Concat a b) = ConcatNode a b
core_node (Nest n a) = NestNode n a
core_node (Align a) = AlignNode a
core_node (Reset a) = ResetNode a
core_node (Choice a b) = ChoiceNode a b
core_node (Only dir a) = OnlyNode dir a
core_node (Charge k a) = ChargeNode k a

-- the graph's nodes that these are
abbrev pub core_nodes : List CoreNode → List GraphNode
core_nodes nodes = map core_node nodes

-- a core: its nodes, and the number of the whole document's
pub record CoreGraph : Type 0 where
  pub nodes : List GraphNode
  pub root : ℕ

abbrev pub core_graph : List GraphNode → ℕ → CoreGraph
core_graph nodes root = record { nodes = nodes; root = root }

-- the nodes are a graph, and the root is one of them
abbrev pub IsCoreGraph : CoreGraph → Type 0
IsCoreGraph core = IsGraph core.nodes × (core.root < length core.nodes)

-- n is the number of a part of the node
abbrev pub IsPart : GraphNode → ℕ → Type 0
IsPart (TextNode s len) n = ⊥
IsPart NewlineNode n = ⊥
IsPart HardNode n = ⊥
IsPart (ConcatNode a b) n = (n ≡ a) ⊎ (n ≡ b)
IsPart (NestNode k a) n = n ≡ a
IsPart (AlignNode a) n = n ≡ a
IsPart (ResetNode a) n = n ≡ a
IsPart (FlattenNode a) n = n ≡ a
IsPart (ChoiceNode a b) n = (n ≡ a) ⊎ (n ≡ b)
IsPart (OnlyNode dir a) n = n ≡ a
IsPart (ChargeNode k a) n = n ≡ a

-- the root is the last node, and each other node is a part of a later one: so the root reaches all
abbrev pub RootReachesAll : CoreGraph → Type 0
RootReachesAll core =
    (core.root + 1 ≡ length core.nodes)
    × ((n : ℕ) → n < core.root → (m : ℕ) × (node : GraphNode) × (n < m) × IsNode core.nodes m node × IsPart node n)
