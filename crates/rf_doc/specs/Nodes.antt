-- What the stored and the told nodes mean, and what a call leaves of the older nodes.
use Rattle.std.specs.Prelude.{◌≡◌, ℕ, zero, suc, ◌+◌, ◌<◌, ◌≤◌, List, length, map, take, slice_range, Result, IfOk, OnErr, ⊤}
use Rattle.std.specs.List.{All}
use Rattle.std.specs.Str.{chars, IsCharBoundary}
use Rattle.std.specs.declared.alloc.AllocError.{AllocError}
use Rattle.rf_base_document.specs.Document.{Doc}
use Rattle.rf_base_document.specs.Graph.{GraphNode, TextNode, NewlineNode, HardNode, ConcatNode, NestNode, AlignNode}
use Rattle.rf_base_document.specs.Graph.{ResetNode, FlattenNode, ChoiceNode, ChargeNode, IsGraph, StandsFor, EachStandsFor}
use Rattle.rf_doc.specs.declared.nodes.NodeId.{NodeId}
use Rattle.rf_doc.specs.declared.nodes.DocNode.{DocNode}
use Rattle.rf_doc.specs.declared.nodes.DocNode.TheVariants.{Text as ToldText, Newline as ToldNewline, Hard as ToldHard}
use Rattle.rf_doc.specs.declared.nodes.DocNode.TheVariants.{Concat as ToldConcat, Nest as ToldNest, Align as ToldAlign}
use Rattle.rf_doc.specs.declared.nodes.DocNode.TheVariants.{Reset as ToldReset, Flatten as ToldFlatten}
use Rattle.rf_doc.specs.declared.nodes.DocNode.TheVariants.{Choice as ToldChoice, Charge as ToldCharge}
use Rattle.rf_doc.specs.declared.stored.Stored.{Stored}
use Rattle.rf_doc.specs.declared.stored.Stored.TheVariants.{Text, Newline, Hard, Concat, Nest, Align, Reset, Flatten}
use Rattle.rf_doc.specs.declared.stored.Stored.TheVariants.{Choice, Charge}

-- the node that is stored so, where all texts stand in this store
abbrev pub stored_node : List ℕ → Stored → GraphNode
stored_node store (Text start len width) = TextNode (chars (slice_range store start (start + len))) width
stored_node store Newline = NewlineNode
stored_node store Hard = HardNode
stored_node store (Concat a b) = ConcatNode a b
stored_node store (Nest n a) = NestNode n a
stored_node store (Align a) = AlignNode a
stored_node store (Reset a) = ResetNode a
stored_node store (Flatten a) = FlattenNode a
stored_node store (Choice a b) = ChoiceNode a b
stored_node store (Charge k a) = ChargeNode k a

-- the nodes that are stored so
abbrev pub seen : List ℕ → List Stored → List GraphNode
seen store nodes = map (stored_node store) nodes

-- a stored text begins and ends in the store where it may be cut
abbrev pub StandsIn : List ℕ → Stored → Type 0
StandsIn store (Text start len width) = IsCharBoundary store start × IsCharBoundary store (start + len)
StandsIn store _ = ⊤

-- each stored text does
abbrev pub EachStandsIn : List ℕ → List Stored → Type 0
EachStandsIn store nodes = All (StandsIn store) nodes

-- the stored nodes are a graph, and each text among them can be cut out of the store
abbrev pub IsKeptSo : List ℕ → List Stored → Type 0
IsKeptSo store nodes = IsGraph (seen store nodes) × EachStandsIn store nodes

-- the stored node is no text
abbrev pub HasNoText : Stored → Type 0
HasNoText (Text start len width) = ⊥
HasNoText _ = ⊤

-- the node that is told so
abbrev pub told_node : DocNode → GraphNode
told_node (ToldText s len) = TextNode (chars s.now) len
told_node ToldNewline = NewlineNode
told_node ToldHard = HardNode
told_node (ToldConcat a b) = ConcatNode a.0 b.0
told_node (ToldNest n a) = NestNode n a.0
told_node (ToldAlign a) = AlignNode a.0
told_node (ToldReset a) = ResetNode a.0
told_node (ToldFlatten a) = FlattenNode a.0
told_node (ToldChoice a b) = ChoiceNode a.0 b.0
told_node (ToldCharge k a) = ChargeNode k a.0

-- the numbers of these nodes
abbrev pub numbers : List NodeId → List ℕ
numbers ids = map (λ (id : NodeId). id.0) ids

-- the node stands for what f makes of whatever the part stood for, the two parts did, or all parts
abbrev pub StandsOver : List GraphNode → ℕ → (Doc → Doc) → List GraphNode → ℕ → Type 0
StandsOver old a f new n = (d : Doc) → StandsFor old a d → StandsFor new n (f d)

abbrev pub StandsOverBoth : List GraphNode → ℕ → ℕ → (Doc → Doc → Doc) → List GraphNode → ℕ → Type 0
StandsOverBoth old a b f new n = (d e : Doc) → StandsFor old a d → StandsFor old b e → StandsFor new n (f d e)

abbrev pub StandsOverAll : List GraphNode → List ℕ → (List Doc → Doc) → List GraphNode → ℕ → Type 0
StandsOverAll old parts f new n = (ds : List Doc) → EachStandsFor old parts ds → StandsFor new n (f ds)

-- how many nodes join a number of parts: one fewer than the parts, or the text of nothing
abbrev pub joints : ℕ → ℕ
joints zero = 1
joints (suc n) = n

-- the new nodes are the old ones, and others after them
abbrev pub Extends : List GraphNode → List GraphNode → Type 0
Extends old new = take (length old) new ≡ old

-- what a call leaves that adds this many nodes at most: the node that it names is there, the new nodes stand after the
-- old ones, and after an Err there are none
pub record Adds (most : ℕ) (old new : List GraphNode) (result : Result NodeId AllocError) : Type 0 where
  pub in_graph : IfOk result (λ id. id.0 < length new)
  pub at_end : Extends old new
  pub few : length new ≤ length old + most
  pub err : OnErr result (new ≡ old)
