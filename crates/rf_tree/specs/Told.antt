-- Nodes as contracts see them, and how they are stored.
use Rattle.std.specs.Prelude.{ℕ, ◌≡◌, ◌+◌, ◌≤◌, List, ◌++◌, length, map, slice_range, ⊤}
use Rattle.rf_tree.specs.declared.nodes.At.{At}
use Rattle.rf_tree.specs.declared.nodes.Node.{Node as ToldNode}
use Rattle.rf_tree.specs.declared.nodes.Node.TheVariants as told
use Rattle.rf_tree.specs.declared.stored.Part.{Part}
use Rattle.rf_tree.specs.declared.stored.Stored.{Stored}
use Rattle.rf_tree.specs.declared.stored.Stored.TheVariants as stored

-- a node: an item by itself, a prefix with its lead and its datum, a list with its opener, entries and closer, a comment
-- of one item, or a skip with its lead and its datum
pub data Node : Type 0 where
  Leaf : ℕ → Node
  Prefixed : ℕ → List At → At → Node
  ListNode : ℕ → List At → ℕ → Node
  Comment : ℕ → Node
  DatumComment : ℕ → List At → At → Node

-- the node that is told so
abbrev pub told_node : ToldNode → Node
told_node (told.Leaf item) = Leaf item
told_node (told.Prefixed item lead inner) = Prefixed item lead.now inner
told_node (told.List opener entries closer) = ListNode opener entries.now closer
told_node (told.Comment item) = Comment item
told_node (told.DatumComment item lead inner) = DatumComment item lead.now inner

-- these of the nodes that nodes name
abbrev pub part_of : List At → Part → List At
part_of named p = slice_range named p.from (p.from + p.count)

-- the node that is stored so
abbrev pub stored_node : List At → Stored → Node
stored_node named (stored.Leaf item) = Leaf item
stored_node named (stored.Prefixed item lead inner) = Prefixed item (part_of named lead) inner
stored_node named (stored.List opener entries closer) = ListNode opener (part_of named entries) closer
stored_node named (stored.Comment item) = Comment item
stored_node named (stored.DatumComment item lead inner) = DatumComment item (part_of named lead) inner

abbrev pub stored_nodes : List At → List Stored → List Node
stored_nodes named nodes = map (stored_node named) nodes

-- what the stored node names is among so many
abbrev pub StandsIn : ℕ → Stored → Type 0
StandsIn n (stored.Leaf item) = ⊤
StandsIn n (stored.Prefixed item lead inner) = lead.from + lead.count ≤ n
StandsIn n (stored.List opener entries closer) = entries.from + entries.count ≤ n
StandsIn n (stored.Comment item) = ⊤
StandsIn n (stored.DatumComment item lead inner) = lead.from + lead.count ≤ n

-- it is stored as this node
pub record IsStoredAs (node : Node) (named : List At) (s : Stored) : Type 0 where
  pub told : stored_node named s ≡ node
  pub within : StandsIn (length named) s

-- the nodes stand among those that nodes name as this part
pub record IsNamed (nodes named : List At) (part : Part) : Type 0 where
  pub are : part_of named part ≡ nodes
  pub within : part.from + part.count ≤ length named

-- the new ones are the old ones, and others behind them
abbrev pub StandsBehind : List At → List At → Type 0
StandsBehind old new = (more : List At) × (new ≡ old ++ more)
