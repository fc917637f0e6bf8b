-- A graph of the marked nodes alone.
use Rattle.std.specs.Prelude.{◌≡◌, ℕ, zero, suc, ◌+◌, ◌<◌, Bool, true, false, List, length, slice_index, slice_index_or}
use Rattle.rf_base_document.specs.Graph.{GraphNode, TextNode, NewlineNode, HardNode, ConcatNode, NestNode, AlignNode}
use Rattle.rf_base_document.specs.Graph.{ResetNode, FlattenNode, ChoiceNode, OnlyNode, ChargeNode, IsNode, IsGraph}
use Rattle.rf_flat.specs.Reached.{IsMarked}

-- a mark counts 1
abbrev pub mark_count : Bool → ℕ
mark_count true = 1
mark_count false = 0

-- the number of marked nodes before n, which is a marked node's new number
unfoldable pub rank : List Bool → ℕ → ℕ
rank marks zero = 0
rank marks (suc n) = rank marks n + mark_count (slice_index_or marks n false)

-- the node with the part f k where it has k
abbrev pub with_parts : (ℕ → ℕ) → GraphNode → GraphNode
with_parts f (TextNode s len) = TextNode s len
with_parts f NewlineNode = NewlineNode
with_parts f HardNode = HardNode
with_parts f (ConcatNode a b) = ConcatNode (f a) (f b)
with_parts f (NestNode k a) = NestNode k (f a)
with_parts f (AlignNode a) = AlignNode (f a)
with_parts f (ResetNode a) = ResetNode (f a)
with_parts f (FlattenNode a) = FlattenNode (f a)
with_parts f (ChoiceNode a b) = ChoiceNode (f a) (f b)
with_parts f (OnlyNode dir a) = OnlyNode dir (f a)
with_parts f (ChargeNode k a) = ChargeNode k (f a)

-- of the first n nodes the marked ones are kept, each under its new number and with its parts' new numbers
pub record KeptUpTo (graph : List GraphNode) (marks : List Bool) (n : ℕ) (places : List ℕ)
    (kept : List GraphNode) : Type 0 where
  pub count : length places ≡ n
  pub placed : (k : ℕ) → k < n → slice_index places k ≡ rank marks k
  pub size : length kept ≡ rank marks n
  pub nodes : (k : ℕ) (node : GraphNode) → k < n → IsMarked marks k → IsNode graph k node →
      IsNode kept (rank marks k) (with_parts (rank marks) node)
  pub is_graph : IsGraph kept
