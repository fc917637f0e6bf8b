-- Data and dots in a list, comments aside, and where dots are lawful (the Racket Reference, "Reading Pairs and Lists").
use Rattle.std.specs.Prelude.{◌≡◌, ◌≢◌, ◌⊎◌, List, [], ◌∷◌, ◌++◌}
use Rattle.std.specs.List.{AllByRecursion}
use Rattle.rf_base_tree.specs.Trees.{Tree, Leaf, Point, Comment, Prefixed, DatumComment, Listed, Forest, Empty, Then}

-- a datum or a dot
pub data Mark : Type 0 where
  OfDatum : Mark
  OfDot : Mark

-- what a tree is, in order before others; a comment is nothing
abbrev pub marked : Tree → List Mark → List Mark
marked (Leaf item) marks = OfDatum ∷ marks
marked (Point item) marks = OfDot ∷ marks
marked (Comment item) marks = marks
marked (Prefixed item lead inner) marks = OfDatum ∷ marks
marked (DatumComment item lead inner) marks = marks
marked (Listed opener entries closer) marks = OfDatum ∷ marks

-- the data and dots of trees in order, comments aside
unfoldable pub marks_of : Forest → List Mark
marks_of Empty = []
marks_of (Then tree rest) = marked tree (marks_of rest)

-- data alone
abbrev pub AllData : List Mark → Type 0
AllData marks = AllByRecursion (λ mark. mark ≡ OfDatum) marks

-- some data
abbrev pub SomeData : List Mark → Type 0
SomeData marks = (marks ≢ []) × AllData marks

-- one dot, behind some data and before one datum
abbrev pub HasOneDot : List Mark → Type 0
HasOneDot marks = (front : List Mark) × (marks ≡ front ++ OfDot ∷ OfDatum ∷ []) × SomeData front

-- two dots around one datum, behind some data and before some data
abbrev pub HasTwoDots : List Mark → Type 0
HasTwoDots marks =
    (front : List Mark) × (back : List Mark) × (marks ≡ front ++ OfDot ∷ OfDatum ∷ OfDot ∷ back) × SomeData front
    × SomeData back

-- the dots in a list are lawful
abbrev pub AreLawful : List Mark → Type 0
AreLawful marks = AllData marks ⊎ HasOneDot marks ⊎ HasTwoDots marks

-- the dots so far can go on to be lawful
abbrev pub MayGoOn : List Mark → Type 0
MayGoOn marks = (more : List Mark) × AreLawful (marks ++ more)
