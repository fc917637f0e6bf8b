-- The document of what stands at a node of a tree.
use Rattle.std.specs.Prelude.{ℕ, zero, suc, Option, None, Some, List, [], ◌∷◌, map, slice_get}
use Rattle.rf_base_document.specs.Document.{Doc}
use Rattle.rf_base_grammar.specs.Token.{Token}
use Rattle.rf_base_grammar.specs.declared.kinds.Kind.{Kind}
use Rattle.rf_base_grammar.specs.declared.kinds.Kind.TheVariants.{Dot}
use Rattle.rf_base_tree.specs.Trees.{Tree, Leaf, Point, Comment, Prefixed, DatumComment, Listed, Forest, Empty, Then, kind_at}
use Rattle.rf_base_file.specs.FileDocument.{tree_piece}
use Rattle.rf_style.specs.StyleOf.{seen}
use Rattle.rf_tree.specs.Sorts.{token_of}
use Rattle.rf_tree.specs.declared.nodes.At.{At}
use Rattle.rf_tree.specs.Told.{Node}
use Rattle.rf_tree.specs.Told as node
use Rattle.rf_tree.specs.declared.trees.Tree.{Tree as KeptTree}
use Rattle.rf_ways.specs.declared.places.Placed.{Placed}

-- the items of a tree with their characters
abbrev pub tokens_in : KeptTree → List Token
tokens_in tree = map (token_of tree) tree.items.items

-- the tree of a dot or of a datum of one item
abbrev pub leaf_of : Option Kind → ℕ → Tree
leaf_of (Some Dot) item = Point item
leaf_of _ item = Leaf item

-- trees that are told, in order
abbrev pub forest_of : (At → Tree) → List At → Forest
forest_of f [] = Empty
forest_of f (at ∷ ats) = Then (f at) (forest_of f ats)

-- the tree of a node, where those of the nodes that it names are told by f
abbrev pub told_tree : List Token → (At → Tree) → Option Node → Tree
told_tree ts f None = Leaf 0
told_tree ts f (Some (node.Leaf item)) = leaf_of (kind_at ts item) item
told_tree ts f (Some (node.Comment item)) = Comment item
told_tree ts f (Some (node.Prefixed item lead inner)) = Prefixed item (forest_of f lead) (f inner)
told_tree ts f (Some (node.DatumComment item lead inner)) = DatumComment item (forest_of f lead) (f inner)
told_tree ts f (Some (node.ListNode opener entries closer)) = Listed opener (forest_of f entries) closer

-- the tree of a node, in which nodes stand at most depth deep
unfoldable pub tree_to : ℕ → List Token → List Node → ℕ → Tree
tree_to zero ts nodes at = Leaf 0
tree_to (suc depth) ts nodes at = told_tree ts (λ part. tree_to depth ts nodes part.0) (slice_get nodes at)

-- the tree that a node is, unfolded
unfoldable pub tree_at : List Token → List Node → ℕ → Tree
tree_at ts nodes at = tree_to (suc at) ts nodes at

-- the document of what stands at a node, where it stands
abbrev pub node_doc : Placed → Doc
node_doc p =
    let ts = tokens_in p.tree.now in
    (tree_piece (seen p.style.now) ts (tree_at ts p.tree.now.nodes p.at.0)).doc p.quoted p.role
