-- The items of a tree are its tokens, and the tree of a node is the one that the node is, unfolded.
use Rattle.std.proofs.Common.{◌≡◌, ℕ, zero, suc, ◌<◌, true, List, [], ◌∷◌, ◌++◌, slice_get, Option, Some, refl, ap, ap₂, ◌∙◌, arith}
use Rattle.std.specs.List.{AllByRecursion}
use Rattle.std.proofs.lemmas.Option.{slice_get-map}
use Rattle.rf_base_document.specs.Document.{Doc, IsDocument}
use Rattle.rf_base_grammar.specs.Token.{Token}
use Rattle.rf_base_grammar.specs.declared.kinds.Kind.{Kind}
use Rattle.rf_base_grammar.specs.declared.kinds.Kind.TheVariants.{Atom, Str, Here, Lang}
use Rattle.rf_base_style.specs.Table.{AreRules}
use Rattle.rf_base_tree.specs.Trees.{Tree, Leaf, Point, Comment, Prefixed as Before, DatumComment, Listed, Forest, Empty, Then}
use Rattle.rf_base_tree.specs.Formed.{is_whole}
use Rattle.rf_base_file.specs.FileDocument.{tree_piece}
use Rattle.rf_base_lines.specs.Lengths.{HasLength}
use Rattle.rf_base_lines.proofs.LongTrees.{tree_long}
use Rattle.rf_base_lines.proofs.LimitTrees.{tree_limits}
use Rattle.rf_style.specs.StyleOf.{seen}
use Rattle.rf_tree.specs.Kept.{IsTreeOf}
use Rattle.rf_tree.specs.Nodes.{UnfoldsTo, UnfoldTo, PartsStandFirst}
use Rattle.rf_tree.specs.Sorts.{token_of}
use Rattle.rf_tree.specs.declared.nodes.At.{At}
use Rattle.rf_tree.specs.Told.{Node}
use Rattle.rf_tree.specs.Told as node
use Rattle.rf_tree.specs.declared.trees.Tree.{Tree as KeptTree}
use Rattle.rf_tree.proofs.ItemTexts.{token_at_is}
use Rattle.rf_tree.proofs.NextSlots.{all_wider}
use Rattle.rf_ways.specs.NodeDocuments.{tokens_in, leaf_of, forest_of, told_tree, tree_to, tree_at, node_doc}
use Rattle.rf_ways.specs.declared.places.Placed.{Placed}
use Rattle.rf_ways.proofs.Below.{below_front}

-- lists with the same at each place are the same
same_at_each : {A : Type 0} (xs ys : List A) → ((n : ℕ) → slice_get xs n ≡ slice_get ys n) → xs ≡ ys
same_at_each [] [] h = refl
same_at_each [] (y ∷ ys) h = let wrong = h 0 in cc
same_at_each (x ∷ xs) [] h = let wrong = h 0 in cc
same_at_each (x ∷ xs) (y ∷ ys) h =
    let first : Some x ≡ Some y = h 0 in
    let same : x ≡ y = cc in
    ap₂ (λ a others. a ∷ others) same (same_at_each xs ys (λ n. h (suc n)))

-- the items that a tree keeps, with their characters, are its tokens
pub tokens_are : (tree : KeptTree) (ts : List Token) (trees : Forest) → IsTreeOf tree ts trees → tokens_in tree ≡ ts
tokens_are tree ts trees h =
    same_at_each (tokens_in tree) ts
    (λ n. slice_get-map (token_of tree) tree.items.items n ∙ token_at_is tree ts trees n h)

-- a datum of one item
whole_leaf : (k : Kind) (item : ℕ) → is_whole k ≡ true → leaf_of (Some k) item ≡ Leaf item
whole_leaf Atom item e = refl
whole_leaf Str item e = refl
whole_leaf Here item e = refl
whole_leaf Lang item e = refl
whole_leaf _ item e = cc

-- trees are told where each is
forest_told : (ts : List Token) (nodes : List Node) (g : At → Tree) (depth : ℕ) →
    ((at : At) (t : Tree) → at.0 < depth → UnfoldsTo ts nodes at.0 t → g at ≡ t) →
    (ats : List At) (f : Forest) → AllByRecursion (λ at. at.0 < depth) ats → UnfoldTo ts nodes ats f → forest_of g ats ≡ f
unfolding UnfoldTo
forest_told ts nodes g depth told [] Empty below h = refl
forest_told ts nodes g depth told [] (Then t f) below h = absurd h
forest_told ts nodes g depth told (at ∷ ats) Empty below h = absurd h
forest_told ts nodes g depth told (at ∷ ats) (Then t f) below h =
    ap₂ Then (told at t below.0 h.0) (forest_told ts nodes g depth told ats f below.1 h.1)

-- the trees of the nodes before this one are told
abbrev Told : List Token → List Node → (At → Tree) → ℕ → Type 0
Told ts nodes g depth = (part : At) (t : Tree) → part.0 < depth → UnfoldsTo ts nodes part.0 t → g part ≡ t

-- so the node's is
parts_told : (ts : List Token) (nodes : List Node) (g : At → Tree) (depth at : ℕ) (lead : List At) (inner : At) (f : Forest) (t : Tree) →
    Told ts nodes g depth → at < suc depth → AllByRecursion (λ part. part.0 < at) (lead ++ inner ∷ []) → UnfoldTo ts nodes lead f →
    UnfoldsTo ts nodes inner.0 t → (forest_of g lead ≡ f) × (g inner ≡ t)
parts_told ts nodes g depth at lead inner f t told less below h k =
    let parts = below_front at lead (inner ∷ []) below in
    let datum = parts.1.0 in
    (forest_told ts nodes g depth told lead f (all_wider at depth lead (omega arith) parts.0) h, told inner t (omega arith) k)

named : (ts : List Token) (nodes : List Node) (g : At → Tree) (at : ℕ) (n : Node) → slice_get nodes at ≡ Some n →
    told_tree ts g (slice_get nodes at) ≡ told_tree ts g (Some n)
named ts nodes g at n e = ap (told_tree ts g) e

node_told : (ts : List Token) (nodes : List Node) (g : At → Tree) (depth at : ℕ) (t : Tree) → PartsStandFirst nodes → Told ts nodes g depth →
    at < suc depth → UnfoldsTo ts nodes at t → told_tree ts g (slice_get nodes at) ≡ t
unfolding UnfoldsTo
node_told ts nodes g depth at (Leaf item) first told less h =
    named ts nodes g at (node.Leaf item) h.0 ∙ ap (λ (o : Option Kind). leaf_of o item) h.1.1 ∙ whole_leaf h.1.0 item h.1.2
node_told ts nodes g depth at (Point item) first told less h =
    named ts nodes g at (node.Leaf item) h.0 ∙ ap (λ (o : Option Kind). leaf_of o item) h.1
node_told ts nodes g depth at (Comment item) first told less h = named ts nodes g at (node.Comment item) h
node_told ts nodes g depth at (Before item lead inner) first told less h =
    let n : Node = node.Prefixed item h.0 h.1 in
    let parts = parts_told ts nodes g depth at h.0 h.1 lead inner told less (first at n h.2) h.3 h.4 in
    named ts nodes g at n h.2 ∙ ap₂ (Before item) parts.0 parts.1
node_told ts nodes g depth at (DatumComment item lead inner) first told less h =
    let n : Node = node.DatumComment item h.0 h.1 in
    let parts = parts_told ts nodes g depth at h.0 h.1 lead inner told less (first at n h.2) h.3 h.4 in
    named ts nodes g at n h.2 ∙ ap₂ (DatumComment item) parts.0 parts.1
node_told ts nodes g depth at (Listed opener entries closer) first told less h =
    let n : Node = node.ListNode opener h.0 closer in
    named ts nodes g at n h.1
    ∙ ap (λ (f : Forest). Listed opener f closer)
    (forest_told ts nodes g depth told h.0 entries (all_wider at depth h.0 (omega arith) (first at n h.1)) h.2)

-- the tree of a node is told to each depth that is greater than its number
tree_told : (depth : ℕ) (ts : List Token) (nodes : List Node) (at : ℕ) (t : Tree) → PartsStandFirst nodes → at < depth →
    UnfoldsTo ts nodes at t → tree_to depth ts nodes at ≡ t
unfolding tree_to
tree_told zero ts nodes at t first less h = absurd (omega arith)
tree_told (suc depth) ts nodes at t first less h =
    node_told ts nodes (λ part. tree_to depth ts nodes part.0) depth at t first
    (λ part x below unfolds. tree_told depth ts nodes part.0 x first below unfolds) less h

pub tree_is : (ts : List Token) (nodes : List Node) (at : ℕ) (t : Tree) → PartsStandFirst nodes → UnfoldsTo ts nodes at t →
    tree_at ts nodes at ≡ t
unfolding tree_at
tree_is ts nodes at t first h = tree_told (suc at) ts nodes at t first (omega arith) h

-- so a node has one document
pub node_document : (p : Placed) (ts : List Token) (trees : Forest) (t : Tree) → IsTreeOf p.tree.now ts trees →
    UnfoldsTo ts p.tree.now.nodes p.at.0 t → node_doc p ≡ (tree_piece (seen p.style.now) ts t).doc p.quoted p.role
node_document p ts trees t h unfolds =
    let nodes : List Node = p.tree.now.nodes in
    let doc : List Token → Tree → Doc = λ us u. (tree_piece (seen p.style.now) us u).doc p.quoted p.role in
    ap (λ (us : List Token). doc us (tree_at us nodes p.at.0)) (tokens_are p.tree.now ts trees h)
    ∙ ap (doc ts) (tree_is ts nodes p.at.0 t h.sound.parts_first unfolds)

-- and that has one length on one line, and keeps the limits of documents
pub node_long : (p : Placed) → HasLength (node_doc p)
node_long p =
    let ts : List Token = tokens_in p.tree.now in
    tree_long (seen p.style.now) ts (tree_at ts p.tree.now.nodes p.at.0) p.quoted p.role

pub node_limits : (p : Placed) → AreRules p.style.now.forms → IsDocument (node_doc p)
node_limits p rules =
    let ts : List Token = tokens_in p.tree.now in
    tree_limits (seen p.style.now) ts (tree_at ts p.tree.now.nodes p.at.0) p.quoted p.role rules
