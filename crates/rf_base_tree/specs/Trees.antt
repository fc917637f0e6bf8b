-- Trees of items. A tree names items by their numbers, from 0.
use Rattle.std.specs.Prelude.{ℕ, zero, suc, ◌+◌, max, Option, List, [], ◌∷◌, ◌++◌, slice_get}
use Rattle.std.specs.Option.{option_map}
use Rattle.rf_base_grammar.specs.Token.{Token}
use Rattle.rf_base_grammar.specs.declared.kinds.Kind.{Kind}

mutual
  -- what stands at one place of a list or of the file
  pub data Tree : Type 0 where
    -- a datum of one item
    Leaf : (item : ℕ) → Tree
    -- a dot
    Point : (item : ℕ) → Tree
    -- a comment of one item
    Comment : (item : ℕ) → Tree
    -- a prefix, the comments behind it, and its datum
    Prefixed : (item : ℕ) (lead : Forest) (inner : Tree) → Tree
    -- a skip, the comments behind it, and its datum; all of it is a comment
    DatumComment : (item : ℕ) (lead : Forest) (inner : Tree) → Tree
    -- a list: what stands between its opener and its closer
    Listed : (opener : ℕ) (entries : Forest) (closer : ℕ) → Tree

  -- trees in order
  pub data Forest : Type 0 where
    Empty : Forest
    Then : (tree : Tree) (rest : Forest) → Forest

-- the kind of an item by its number
abbrev pub kind_at : List Token → ℕ → Option Kind
kind_at ts n = option_map (λ t. t.kind) (slice_get ts n)

-- the characters of an item by its number; none where there is no such item
abbrev pub spelling_at : List Token → ℕ → List ℕ
spelling_at [] n = []
spelling_at (t ∷ ts) zero = t.spelling
spelling_at (t ∷ ts) (suc n) = spelling_at ts n

-- the offset of an item by its number
abbrev pub start_at : List Token → ℕ → ℕ
start_at [] n = 0
start_at (t ∷ ts) zero = t.start
start_at (t ∷ ts) (suc n) = start_at ts n

-- the numbers of a tree's items, from left to right
unfoldable mutual
  pub tree_items : Tree → List ℕ
  tree_items (Leaf item) = item ∷ []
  tree_items (Point item) = item ∷ []
  tree_items (Comment item) = item ∷ []
  tree_items (Prefixed item lead inner) = item ∷ (forest_items lead ++ tree_items inner)
  tree_items (DatumComment item lead inner) = item ∷ (forest_items lead ++ tree_items inner)
  tree_items (Listed opener entries closer) = opener ∷ (forest_items entries ++ closer ∷ [])

  pub forest_items : Forest → List ℕ
  forest_items Empty = []
  forest_items (Then tree rest) = tree_items tree ++ forest_items rest

-- how many lists, prefixes and skips stand in one another
unfoldable mutual
  pub tree_depth : Tree → ℕ
  tree_depth (Leaf item) = 0
  tree_depth (Point item) = 0
  tree_depth (Comment item) = 0
  tree_depth (Prefixed item lead inner) = max (forest_depth lead) (tree_depth inner) + 1
  tree_depth (DatumComment item lead inner) = max (forest_depth lead) (tree_depth inner) + 1
  tree_depth (Listed opener entries closer) = forest_depth entries + 1

  pub forest_depth : Forest → ℕ
  forest_depth Empty = 0
  forest_depth (Then tree rest) = max (tree_depth tree) (forest_depth rest)
