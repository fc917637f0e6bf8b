-- Which trees the nodes stand for.
use Rattle.std.specs.Prelude.{ℕ, ◌≡◌, ◌<◌, Some, List, [], ◌∷◌, ◌++◌, length, slice_get, ⊤}
use Rattle.std.specs.List.{AllByRecursion}
use Rattle.rf_base_grammar.specs.Token.{Token}
use Rattle.rf_base_grammar.specs.declared.kinds.Kind.TheVariants.{Dot}
use Rattle.rf_base_tree.specs.Trees.{Tree, Leaf, Point, Comment, Prefixed, DatumComment, Listed, Forest, Empty, Then}
use Rattle.rf_base_tree.specs.Trees.{kind_at}
use Rattle.rf_base_tree.specs.Formed.{KindPasses, is_whole, Treed}
use Rattle.rf_tree.specs.declared.nodes.At.{At}
use Rattle.rf_tree.specs.Told.{Node}
use Rattle.rf_tree.specs.Told as node

-- the node at this place, unfolded, is the tree; the nodes at these places are the trees, in order. A dot is told from
-- a datum of one item by the item's kind
unfoldable mutual
  pub UnfoldsTo : List Token → List Node → ℕ → Tree → Type 0
  UnfoldsTo ts nodes at (Leaf item) = (slice_get nodes at ≡ Some (node.Leaf item)) × KindPasses is_whole ts item
  UnfoldsTo ts nodes at (Point item) = (slice_get nodes at ≡ Some (node.Leaf item)) × (kind_at ts item ≡ Some Dot)
  UnfoldsTo ts nodes at (Comment item) = slice_get nodes at ≡ Some (node.Comment item)
  UnfoldsTo ts nodes at (Prefixed item lead inner) =
      (parts : List At) × (datum : At) × (slice_get nodes at ≡ Some (node.Prefixed item parts datum))
      × UnfoldTo ts nodes parts lead × UnfoldsTo ts nodes datum.0 inner
  UnfoldsTo ts nodes at (DatumComment item lead inner) =
      (parts : List At) × (datum : At) × (slice_get nodes at ≡ Some (node.DatumComment item parts datum))
      × UnfoldTo ts nodes parts lead × UnfoldsTo ts nodes datum.0 inner
  UnfoldsTo ts nodes at (Listed opener entries closer) =
      (parts : List At) × (slice_get nodes at ≡ Some (node.ListNode opener parts closer))
      × UnfoldTo ts nodes parts entries

  pub UnfoldTo : List Token → List Node → List At → Forest → Type 0
  UnfoldTo ts nodes [] Empty = ⊤
  UnfoldTo ts nodes [] (Then tree rest) = ⊥
  UnfoldTo ts nodes (at ∷ ats) Empty = ⊥
  UnfoldTo ts nodes (at ∷ ats) (Then tree rest) = UnfoldsTo ts nodes at.0 tree × UnfoldTo ts nodes ats rest

-- the nodes that a node names
abbrev pub parts_of : Node → List At
parts_of (node.Leaf item) = []
parts_of (node.Prefixed item lead inner) = lead ++ inner ∷ []
parts_of (node.ListNode opener entries closer) = entries
parts_of (node.Comment item) = []
parts_of (node.DatumComment item lead inner) = lead ++ inner ∷ []

-- what a node names stands before it
abbrev pub PartsStandFirst : List Node → Type 0
PartsStandFirst nodes =
    (at : ℕ) (n : Node) → slice_get nodes at ≡ Some n → AllByRecursion (λ part. part.0 < at) (parts_of n)

-- the numbers of a node's own items are below n
abbrev pub NamesBelow : ℕ → Node → Type 0
NamesBelow n (node.Leaf item) = item < n
NamesBelow n (node.Prefixed item lead inner) = item < n
NamesBelow n (node.ListNode opener entries closer) = (opener < n) × (closer < n)
NamesBelow n (node.Comment item) = item < n
NamesBelow n (node.DatumComment item lead inner) = item < n

-- each node stands behind what it names, and names items that are there
pub record AreSound (ts : List Token) (nodes : List Node) : Type 0 where
  pub parts_first : PartsStandFirst nodes
  pub names : AllByRecursion (NamesBelow (length ts)) nodes

-- the nodes, and those at the top, are the tree of the items
pub record AreTreeOf (ts : List Token) (nodes : List Node) (tops : List At) : Type 0 where
  pub trees : Forest
  pub treed : Treed ts trees
  pub stand_for : UnfoldTo ts nodes tops trees
  pub sound : AreSound ts nodes
