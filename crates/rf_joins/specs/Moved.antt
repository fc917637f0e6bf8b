-- A text behind another one: its items and its trees, moved.
use Rattle.std.specs.Prelude.{ℕ, ◌≡◌, ◌+◌, ◌≢◌, List, [], ◌∷◌, ◌++◌, map, codes, ⊤}
use Rattle.std.specs.List.{AllByRecursion}
use Rattle.rf_base_grammar.specs.Spelled.{MayFollow}
use Rattle.rf_base_grammar.specs.Token.{Token}
use Rattle.rf_base_grammar.specs.declared.kinds.Kind.TheVariants.{Lang}
use Rattle.rf_base_tree.specs.Trees.{Tree, Leaf, Point, Comment, Prefixed, DatumComment, Listed, Forest, Empty, Then}
use Rattle.rf_base_tree.specs.Formed.{IsDatum}

-- the tree whose items' numbers are so many greater, and trees of which each is moved so
unfoldable mutual
  pub moved : ℕ → Tree → Tree
  moved n (Leaf item) = Leaf (n + item)
  moved n (Point item) = Point (n + item)
  moved n (Comment item) = Comment (n + item)
  moved n (Prefixed item lead inner) = Prefixed (n + item) (all_moved n lead) (moved n inner)
  moved n (DatumComment item lead inner) = DatumComment (n + item) (all_moved n lead) (moved n inner)
  moved n (Listed opener entries closer) = Listed (n + opener) (all_moved n entries) (n + closer)

  pub all_moved : ℕ → Forest → Forest
  all_moved n Empty = Empty
  all_moved n (Then tree rest) = Then (moved n tree) (all_moved n rest)

-- the token so many bytes further on
abbrev pub further : ℕ → Token → Token
further n t =
    record { kind = t.kind; start = n + t.start; spelling = t.spelling; blanks = t.blanks; own_line = t.own_line }

-- these tokens, and behind them those of a text that stands behind so many bytes
abbrev pub joined : ℕ → List Token → List Token → List Token
joined n us vs = us ++ map (further n) vs

-- none of the tokens is a language line
abbrev pub HaveNoLanguage : List Token → Type 0
HaveNoLanguage ts = AllByRecursion (λ t. t.kind ≢ Lang) ts

-- the text may follow the last of the tokens, if there is one
abbrev pub MayBeFollowed : List Token → List ℕ → Type 0
MayBeFollowed [] text = ⊤
MayBeFollowed (t ∷ []) text = MayFollow t.kind t.spelling text
MayBeFollowed (t ∷ u ∷ ts) text = MayBeFollowed (u ∷ ts) text

-- there are trees, and the last of them is a datum
abbrev pub EndInDatum : Forest → Type 0
EndInDatum Empty = ⊥
EndInDatum (Then tree Empty) = IsDatum tree
EndInDatum (Then tree (Then next rest)) = EndInDatum (Then next rest)

-- no language line begins anywhere in the text
abbrev pub HoldsNoLanguage : List ℕ → Type 0
HoldsNoLanguage text = (front behind : List ℕ) → text ≡ front ++ (codes "#lang" ++ behind) → ⊥
