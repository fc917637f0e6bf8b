-- Which trees items may stand in.
use Rattle.std.specs.Prelude.{ℕ, ◌≡◌, ◌≤◌, Bool, true, false, Some, List, [], ◌∷◌, length, codes, ⊤}
use Rattle.std.specs.List.{range_with_len}
use Rattle.rf_base_grammar.specs.Characters.{BeginsWith}
use Rattle.rf_base_grammar.specs.Token.{Token}
use Rattle.rf_base_grammar.specs.declared.kinds.Bracket.{Bracket}
use Rattle.rf_base_grammar.specs.declared.kinds.Kind.{Kind}
use Rattle.rf_base_grammar.specs.declared.kinds.Kind.TheVariants.{Opener, Closer, Prefix, Skip, Dot, Atom, Str, Here, Block, Line, Lang}
use Rattle.rf_base_tree.specs.Trees.{Tree, Leaf, Point, Comment, Prefixed, DatumComment, Listed, Forest, Empty, Then, kind_at, spelling_at, forest_items, forest_depth}
use Rattle.rf_base_tree.specs.Dots.{OfDatum, marked, marks_of, AllData, AreLawful}

-- whether an item of the kind is a datum by itself
abbrev pub is_whole : Kind → Bool
is_whole Atom = true
is_whole Str = true
is_whole Here = true
is_whole Lang = true
is_whole _ = false

-- whether an item of the kind is a comment by itself
abbrev pub is_remark : Kind → Bool
is_remark Block = true
is_remark Line = true
is_remark _ = false

-- the item is of a kind that passes the test
abbrev pub KindPasses : (Kind → Bool) → List Token → ℕ → Type 0
KindPasses test ts item = (kind : Kind) × (kind_at ts item ≡ Some kind) × (test kind ≡ true)

-- no dot stands directly in a list whose opener begins with a hash sign
abbrev pub MayHoldDots : List Token → ℕ → Forest → Type 0
MayHoldDots ts opener entries = BeginsWith (codes "#") (spelling_at ts opener) → AllData (marks_of entries)

-- the tree is a datum
abbrev pub IsDatum : Tree → Type 0
IsDatum tree = marked tree [] ≡ OfDatum ∷ []

-- each of the trees is a comment
abbrev pub AreComments : Forest → Type 0
AreComments trees = marks_of trees ≡ []

-- the items stand where trees of this form have them: a prefix and a skip before comments and a datum, a list's opener
-- and closer pair by bracket, and the dots directly in it are lawful
unfoldable mutual
  pub IsFormed : List Token → Tree → Type 0
  IsFormed ts (Leaf item) = KindPasses is_whole ts item
  IsFormed ts (Point item) = kind_at ts item ≡ Some Dot
  IsFormed ts (Comment item) = KindPasses is_remark ts item
  IsFormed ts (Prefixed item lead inner) =
      (kind_at ts item ≡ Some Prefix) × AreFormed ts lead × AreComments lead × IsFormed ts inner × IsDatum inner
  IsFormed ts (DatumComment item lead inner) =
      (kind_at ts item ≡ Some Skip) × AreFormed ts lead × AreComments lead × IsFormed ts inner × IsDatum inner
  IsFormed ts (Listed opener entries closer) =
      (b : Bracket) × (kind_at ts opener ≡ Some (Opener b)) × AreFormed ts entries
      × (kind_at ts closer ≡ Some (Closer b))
      × AreLawful (marks_of entries) × MayHoldDots ts opener entries

  pub AreFormed : List Token → Forest → Type 0
  AreFormed ts Empty = ⊤
  AreFormed ts (Then tree rest) = IsFormed ts tree × AreFormed ts rest

-- how many lists, prefixes and skips may be begun and not complete at one place
abbrev pub depth_limit : ℕ
depth_limit = 500

-- the items are those of these trees, in order
pub record Treed (ts : List Token) (trees : Forest) : Type 0 where
  pub items_are : forest_items trees ≡ range_with_len 0 (length ts)
  pub formed : AreFormed ts trees
  -- no dot stands outside of lists
  pub dotless : AllData (marks_of trees)
  pub shallow : forest_depth trees ≤ depth_limit
