-- Graphs: documents as lists of nodes whose parts are numbers of nodes, so that parts can be shared.
use Rattle.std.specs.Prelude.{◌≡◌, ℕ, zero, suc, ◌≤◌, max, List, [], ◌∷◌, Option, None, Some, slice_get, ⊤}
use Rattle.rf_base_document.specs.declared.directions.Dir.{Dir}
use Rattle.rf_base_document.specs.Document.{Doc, Text, Newline, Hard, Concat, Nest, Align, Reset, Flatten, Choice, Only, Charge, plain_text, KeepsTextLimits}

-- a node; each constructor means what that of `Doc` without `Node` means, and a part is a node's number
pub data GraphNode : Type 0 where
  TextNode : (s : List ℕ) (len : ℕ) → GraphNode
  NewlineNode : GraphNode
  HardNode : GraphNode
  ConcatNode : (a b : ℕ) → GraphNode
  NestNode : (n a : ℕ) → GraphNode
  AlignNode : (a : ℕ) → GraphNode
  ResetNode : (a : ℕ) → GraphNode
  FlattenNode : (a : ℕ) → GraphNode
  ChoiceNode : (a b : ℕ) → GraphNode
  OnlyNode : (dir : Dir) (a : ℕ) → GraphNode
  ChargeNode : (k a : ℕ) → GraphNode

-- node n of the graph is this node
abbrev pub IsNode : List GraphNode → ℕ → GraphNode → Type 0
IsNode graph n node = slice_get graph n ≡ Some node

-- one more than the greatest number of a part, or 0 where there is no part
abbrev pub parts_end : GraphNode → ℕ
parts_end (TextNode s len) = 0
parts_end NewlineNode = 0
parts_end HardNode = 0
parts_end (ConcatNode a b) = max (suc a) (suc b)
parts_end (NestNode n a) = suc a
parts_end (AlignNode a) = suc a
parts_end (ResetNode a) = suc a
parts_end (FlattenNode a) = suc a
parts_end (ChoiceNode a b) = max (suc a) (suc b)
parts_end (OnlyNode dir a) = suc a
parts_end (ChargeNode k a) = suc a

-- the node keeps the limits of a document
abbrev pub NodeKeepsLimits : GraphNode → Type 0
NodeKeepsLimits (TextNode s len) = KeepsTextLimits s len
NodeKeepsLimits (NestNode n a) = n ≤ 1000
NodeKeepsLimits (ChargeNode k a) = k ≤ 1000
NodeKeepsLimits _ = ⊤

-- each node keeps the limits, and its parts have smaller numbers than the node
unfoldable pub IsGraph : List GraphNode → Type 0
IsGraph graph = (n : ℕ) (node : GraphNode) → IsNode graph n node → (parts_end node ≤ n) × NodeKeepsLimits node

-- node n of the graph, unfolded, is the tree d
unfoldable pub StandsFor : List GraphNode → ℕ → Doc → Type 0
StandsFor graph n (Text s len) = IsNode graph n (TextNode s len)
StandsFor graph n Newline = IsNode graph n NewlineNode
StandsFor graph n Hard = IsNode graph n HardNode
StandsFor graph n (Concat a b) =
    (x : ℕ) × (y : ℕ) × IsNode graph n (ConcatNode x y) × StandsFor graph x a × StandsFor graph y b
StandsFor graph n (Nest k a) = (x : ℕ) × IsNode graph n (NestNode k x) × StandsFor graph x a
StandsFor graph n (Align a) = (x : ℕ) × IsNode graph n (AlignNode x) × StandsFor graph x a
StandsFor graph n (Reset a) = (x : ℕ) × IsNode graph n (ResetNode x) × StandsFor graph x a
StandsFor graph n (Flatten a) = (x : ℕ) × IsNode graph n (FlattenNode x) × StandsFor graph x a
StandsFor graph n (Choice a b) =
    (x : ℕ) × (y : ℕ) × IsNode graph n (ChoiceNode x y) × StandsFor graph x a × StandsFor graph y b
StandsFor graph n (Only dir a) = (x : ℕ) × IsNode graph n (OnlyNode dir x) × StandsFor graph x a
StandsFor graph n (Charge k a) = (x : ℕ) × IsNode graph n (ChargeNode k x) × StandsFor graph x a

-- the numbered nodes stand for these documents, one for each in order
unfoldable pub EachStandsFor : List GraphNode → List ℕ → List Doc → Type 0
EachStandsFor graph [] [] = ⊤
EachStandsFor graph [] (d ∷ ds) = ⊥
EachStandsFor graph (n ∷ ns) [] = ⊥
EachStandsFor graph (n ∷ ns) (d ∷ ds) = StandsFor graph n d × EachStandsFor graph ns ds

-- the tree of a node, whose parts are the trees that f gives; where there is no node, a text of nothing
abbrev pub tree_of : (ℕ → Doc) → Option GraphNode → Doc
tree_of f None = plain_text []
tree_of f (Some (TextNode s len)) = Text s len
tree_of f (Some NewlineNode) = Newline
tree_of f (Some HardNode) = Hard
tree_of f (Some (ConcatNode a b)) = Concat (f a) (f b)
tree_of f (Some (NestNode n a)) = Nest n (f a)
tree_of f (Some (AlignNode a)) = Align (f a)
tree_of f (Some (ResetNode a)) = Reset (f a)
tree_of f (Some (FlattenNode a)) = Flatten (f a)
tree_of f (Some (ChoiceNode a b)) = Choice (f a) (f b)
tree_of f (Some (OnlyNode dir a)) = Only dir (f a)
tree_of f (Some (ChargeNode k a)) = Charge k (f a)

-- node n of the graph as a tree of at most this depth
unfoldable pub unfolded_to : ℕ → List GraphNode → ℕ → Doc
unfolded_to zero graph n = plain_text []
unfolded_to (suc depth) graph n = tree_of (unfolded_to depth graph) (slice_get graph n)

-- the tree that node n of a graph stands for
unfoldable pub unfolded : List GraphNode → ℕ → Doc
unfolded graph n = unfolded_to (suc n) graph n
