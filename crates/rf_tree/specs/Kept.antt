-- What a tree that the program keeps means.
use Rattle.std.specs.Prelude.{ℕ, ◌≡◌, ◌<◌, ◌≤◌, Some, List, [], length, map, slice_get}
use Rattle.std.specs.Str.{chars, IsUtf8}
use Rattle.rf_base_grammar.specs.declared.TheConstants.{SOURCE_LIMIT}
use Rattle.rf_base_grammar.specs.Token.{Token, item_of}
use Rattle.rf_base_tree.specs.Trees.{Forest}
use Rattle.rf_base_tree.specs.Places.{IsPlace}
use Rattle.rf_tree.specs.Texts.{AreTokensOf}
use Rattle.rf_tree.specs.Nodes.{UnfoldTo, AreSound}
use Rattle.rf_tree.specs.Next.{followed_by}
use Rattle.rf_tree.specs.declared.nodes.At.{At}
use Rattle.rf_tree.specs.Told as node
use Rattle.rf_tree.specs.declared.trees.Tree.{Tree}

-- the trees stand next to one another at the top of the file: with some before them they are what the first items lead
-- to
unfoldable pub StandAtTop : List Token → Forest → Type 0
StandAtTop ts trees = (before : Forest) × (n : ℕ) × IsPlace ts n [] (followed_by before trees)

-- the tree holds a source of a source's length, its items, read or settled, and some of their trees, or all, next to
-- one another at the top
pub record IsTreeOf (tree : Tree) (ts : List Token) (trees : Forest) : Type 0 where
  pub utf8 : IsUtf8 tree.src.now
  pub tokens : AreTokensOf (chars tree.src.now) ts
  pub items_are : tree.items.items ≡ map item_of ts
  pub at_top : StandAtTop ts trees
  pub stand_for : UnfoldTo ts tree.nodes tree.tops.items trees
  pub sound : AreSound ts tree.nodes
  pub short : length tree.src.now ≤ SOURCE_LIMIT

-- the tree holds some source and trees of it
abbrev pub IsTree : Tree → Type 0
IsTree tree = (ts : List Token) × (trees : Forest) × IsTreeOf tree ts trees

-- the node of this number is there, or is a list
abbrev pub HasNode : Tree → At → Type 0
HasNode tree at = at.0 < length tree.nodes

abbrev pub HasList : Tree → At → Type 0
HasList tree at =
    (opener : ℕ) × (entries : List At) × (closer : ℕ)
    × (slice_get tree.nodes at.0 ≡ Some (node.ListNode opener entries closer))

-- the item of this number is there
abbrev pub HasItem : Tree → ℕ → Type 0
HasItem tree item = item < length tree.items.items
