-- Worked examples of the trees of nodes and of their documents: a definition that changes its meaning fails here.
use Rattle.std.proofs.Common.{◌≡◌, ℕ, Bool, false, true, List, [], ◌∷◌, map, slice_range, Some, None, codes, refl, ap, ap₂, ◌∙◌}
use Rattle.std.specs.Str.{chars}
use Rattle.rf_base_document.specs.Document.{Doc}
use Rattle.rf_base_grammar.specs.Token.{Token}
use Rattle.rf_base_grammar.specs.declared.items.Item.{Item}
use Rattle.rf_base_grammar.specs.declared.kinds.Bracket.TheVariants.{Round}
use Rattle.rf_base_grammar.specs.declared.kinds.Kind.{Kind}
use Rattle.rf_base_grammar.specs.declared.kinds.Kind.TheVariants.{Opener, Closer, Prefix, Skip, Dot, Atom, Block}
use Rattle.rf_base_tree.specs.Trees.{Tree, Leaf, Point, Comment, Prefixed as Before, DatumComment, Listed, Empty, Then}
use Rattle.rf_base_file.specs.declared.shapes.Role.{Role}
use Rattle.rf_base_file.specs.declared.shapes.Role.TheVariants.{Clause}
use Rattle.rf_base_file.specs.FileDocument.{tree_piece}
use Rattle.rf_style.specs.StyleOf.{seen}
use Rattle.rf_tree.specs.declared.nodes.At.{At}
use Rattle.rf_tree.specs.Told.{Node}
use Rattle.rf_tree.specs.Told as node
use Rattle.rf_tree.specs.declared.trees.Tree.{Tree as KeptTree}
use Rattle.rf_ways.specs.NodeDocuments.{tokens_in, leaf_of, forest_of, tree_to, tree_at, node_doc}
use Rattle.rf_ways.specs.declared.places.Placed.{Placed}

abbrev token : Kind → List ℕ → Token
token kind spelling = record { kind = kind; start = 0; spelling = spelling; blanks = 0; own_line = false }

-- of `#| |# ' ( a . b ) #;`
abbrev tokens : List Token
tokens =
    token Block (codes "#||#") ∷ token Prefix (codes "'") ∷ token (Opener Round) (codes "(") ∷ token Atom (codes "a")
    ∷ token Dot (codes ".") ∷ token Atom (codes "b") ∷ token (Closer Round) (codes ")") ∷ token Skip (codes "#;") ∷ []

abbrev place : ℕ → At
place n = record { 0 = n }

-- the nodes of a comment, of two data and a dot between them, of a list of these, of it behind a prefix and a comment,
-- and of a skip before that
abbrev nodes : List At → List At → List At → List Node
nodes entries lead none =
    node.Leaf 5 ∷ node.Comment 0 ∷ node.Leaf 3 ∷ node.Leaf 4 ∷ node.ListNode 2 entries 6 ∷ node.Prefixed 1 lead (place 4)
    ∷ node.DatumComment 7 none (place 5) ∷ []

-- a datum of one item, a dot and a comment are told by their items; a node that isn't there is told as the first item
leaf_nodes : (entries lead none : List At) →
    let ns = nodes entries lead none in
    (tree_at tokens ns 0 ≡ Leaf 5) × (tree_at tokens ns 1 ≡ Comment 0) × (tree_at tokens ns 2 ≡ Leaf 3)
    × (tree_at tokens ns 3 ≡ Point 4) × (tree_at tokens ns 9 ≡ Leaf 0)
unfolding tree_at tree_to
leaf_nodes entries lead none = (refl, refl, refl, refl, refl)

-- an item that isn't there is a datum, and none but a dot is told as one
leaf_kinds : (leaf_of None 8 ≡ Leaf 8) × (leaf_of (Some Dot) 8 ≡ Point 8) × (leaf_of (Some Atom) 8 ≡ Leaf 8)
    × (leaf_of (Some Prefix) 8 ≡ Leaf 8)
leaf_kinds = (refl, refl, refl, refl)

-- a list holds its entries in order
abbrev the_list : Tree
the_list = Listed 2 (Then (Leaf 3) (Then (Point 4) (Then (Leaf 5) Empty))) 6

list_node : (entries lead none : List At) → entries ≡ place 2 ∷ place 3 ∷ place 0 ∷ [] →
    tree_at tokens (nodes entries lead none) 4 ≡ the_list
unfolding tree_at tree_to
list_node entries lead none e =
    ap (λ (ats : List At). Listed 2 (forest_of (λ at. tree_to 4 tokens (nodes entries lead none) at.0) ats) 6) e

-- a prefix has its comments and its datum, whose own nodes are as deep as they can be
prefix_node : (entries lead none : List At) → entries ≡ place 2 ∷ place 3 ∷ place 0 ∷ [] →
    lead ≡ place 1 ∷ [] → tree_at tokens (nodes entries lead none) 5 ≡ Before 1 (Then (Comment 0) Empty) the_list
unfolding tree_at tree_to
prefix_node entries lead none e f =
    ap₂ (λ (xs ys : List At). Before 1 (forest_of (λ at. tree_to 5 tokens (nodes entries lead none) at.0) xs)
    (Listed 2 (forest_of (λ at. tree_to 4 tokens (nodes entries lead none) at.0) ys) 6)) f e

-- a skip without comments has its datum alone
skip_node : (entries lead none : List At) → lead ≡ place 1 ∷ [] → none ≡ [] → entries ≡ place 2 ∷ place 3 ∷ place 0 ∷ [] →
    tree_at tokens (nodes entries lead none) 6 ≡ DatumComment 7 Empty (Before 1 (Then (Comment 0) Empty) the_list)
unfolding tree_at tree_to
skip_node entries lead none f n e =
    ap (λ (zs : List At). DatumComment 7 (forest_of (λ at. tree_to 6 tokens (nodes entries lead none) at.0) zs)
    (tree_to 6 tokens (nodes entries lead none) 5)) n
    ∙ ap₂ (λ (xs ys : List At). DatumComment 7 Empty (Before 1 (forest_of (λ at. tree_to 5 tokens (nodes entries lead none) at.0) xs)
    (Listed 2 (forest_of (λ at. tree_to 4 tokens (nodes entries lead none) at.0) ys) 6))) f e

-- nodes that stand behind one another need as many steps as there are
chain : (none : List At) → none ≡ [] →
    tree_at tokens (node.Leaf 3 ∷ node.Prefixed 1 none (place 0) ∷ node.Prefixed 1 none (place 1) ∷ []) 2
    ≡ Before 1 Empty (Before 1 Empty (Leaf 3))
unfolding tree_at tree_to
chain none n =
    let ns : List Node = node.Leaf 3 ∷ node.Prefixed 1 none (place 0) ∷ node.Prefixed 1 none (place 1) ∷ [] in
    ap₂ (λ (xs ys : List At). Before 1 (forest_of (λ at. tree_to 2 tokens ns at.0) xs)
    (Before 1 (forest_of (λ at. tree_to 1 tokens ns at.0) ys) (Leaf 3))) n n

-- the items of a tree have the characters that the source has between their offsets, and all else as they are kept
abbrev item : Kind → ℕ → ℕ → Item
item kind from to = record { kind = kind; start = from; end = to; blanks = from; own_line = true }

abbrev told : Kind → ℕ → List ℕ → Token
told kind from spelling = record { kind = kind; start = from; spelling = spelling; blanks = from; own_line = true }

items_told : (tree : KeptTree) → tree.items.items ≡ item (Opener Round) 0 1 ∷ item Atom 1 3 ∷ [] → tree.src.now ≡ codes "(ab" →
    tokens_in tree ≡ told (Opener Round) 0 (codes "(") ∷ told Atom 1 (codes "ab") ∷ []
unfolding chars
items_told tree e s =
    ap₂ (λ (src : List ℕ) (items : List Item). map (λ i. record { kind = i.kind; start = i.start; spelling = chars (slice_range src i.start i.end); blanks = i.blanks; own_line = i.own_line }) items) s e

-- the document is that of the tree in the place's style, quoted or not and with the place's role
abbrev doc_of : Placed → List Token → Tree → Doc
doc_of p ts t = (tree_piece (seen p.style.now) ts t).doc p.quoted p.role

placed_doc : (p : Placed) (entries lead none : List At) → tokens_in p.tree.now ≡ tokens → p.tree.now.nodes ≡ nodes entries lead none → p.at ≡ place 4 → p.quoted ≡ true → p.role ≡ Clause →
    entries ≡ place 2 ∷ place 3 ∷ place 0 ∷ [] → node_doc p ≡ (tree_piece (seen p.style.now) tokens the_list).doc true Clause
placed_doc p entries lead none t n a q r e =
    ap₂ (λ (ts : List Token) (ns : List Node). doc_of p ts (tree_at ts ns p.at.0)) t n
    ∙ ap (λ (at : At). doc_of p tokens (tree_at tokens (nodes entries lead none) at.0)) a
    ∙ ap (doc_of p tokens) (list_node entries lead none e)
    ∙ ap₂ (λ (quoted : Bool) (role : Role). (tree_piece (seen p.style.now) tokens the_list).doc quoted role) q r
