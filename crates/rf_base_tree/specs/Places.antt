-- Where a reading of items stands: what is begun and isn't complete, and what stands behind it.
use Rattle.std.specs.Prelude.{ℕ, ◌≡◌, ◌≤◌, ◌+◌, Some, List, [], ◌∷◌, ◌++◌, length, codes}
use Rattle.std.specs.List.{range_with_len}
use Rattle.rf_base_grammar.specs.Characters.{BeginsWith}
use Rattle.rf_base_grammar.specs.Token.{Token}
use Rattle.rf_base_grammar.specs.declared.kinds.Bracket.{Bracket}
use Rattle.rf_base_grammar.specs.declared.kinds.Kind.TheVariants.{Opener, Prefix, Skip}
use Rattle.rf_base_tree.specs.Trees.{Forest, kind_at, spelling_at, forest_items, forest_depth}
use Rattle.rf_base_tree.specs.Dots.{Mark, OfDatum, marks_of, AllData, MayGoOn}
use Rattle.rf_base_tree.specs.Formed.{AreFormed, AreComments, depth_limit}

-- a list, a prefix or a skip that was begun: the trees before it on its level, and its first item
pub data Frame : Type 0 where
  InList : (before : Forest) (opener : ℕ) → Frame
  InPrefix : (before : Forest) (item : ℕ) → Frame
  InSkip : (before : Forest) (item : ℕ) → Frame

-- the trees before what was begun
abbrev pub before_of : Frame → Forest
before_of (InList before opener) = before
before_of (InPrefix before item) = before
before_of (InSkip before item) = before

-- the first item of what was begun
abbrev pub item_of : Frame → ℕ
item_of (InList before opener) = opener
item_of (InPrefix before item) = item
item_of (InSkip before item) = item

-- what is begun will be: a datum, or a comment
abbrev pub becomes : Frame → List Mark
becomes (InList before opener) = OfDatum ∷ []
becomes (InPrefix before item) = OfDatum ∷ []
becomes (InSkip before item) = []

-- the items that lead to a place: what is begun there, the innermost first, and the trees behind its first item
abbrev pub place_items : List Frame → Forest → List ℕ
place_items [] here = forest_items here
place_items (f ∷ frames) here = place_items frames (before_of f) ++ item_of f ∷ forest_items here

-- these trees may stand so far in what was begun, where `next` comes behind them: in a list, such that the dots can go
-- on to be lawful, and without a dot behind an opener with a hash sign; behind a prefix or a skip, where they are
-- comments
abbrev pub MayHold : List Token → Frame → Forest → List Mark → Type 0
MayHold ts (InList before opener) here next =
    MayGoOn (marks_of here ++ next) × (BeginsWith (codes "#") (spelling_at ts opener) → AllData (marks_of here ++ next))
MayHold ts (InPrefix before item) here next = AreComments here
MayHold ts (InSkip before item) here next = AreComments here

-- the first item of what was begun is of its kind
abbrev pub HasItsKind : List Token → Frame → Type 0
HasItsKind ts (InList before opener) = (b : Bracket) × (kind_at ts opener ≡ Some (Opener b))
HasItsKind ts (InPrefix before item) = kind_at ts item ≡ Some Prefix
HasItsKind ts (InSkip before item) = kind_at ts item ≡ Some Skip

-- what is complete is formed, what is begun has its kind, data and dots stand so far as they may, where `next` comes
-- behind them on the innermost level, and no more is begun than may be
abbrev pub IsLawful : List Token → List Frame → Forest → List Mark → Type 0
IsLawful ts [] here next = AreFormed ts here × AllData (marks_of here ++ next) × (forest_depth here ≤ depth_limit)
IsLawful ts (f ∷ frames) here next =
    IsLawful ts frames (before_of f) (becomes f) × HasItsKind ts f × AreFormed ts here × MayHold ts f here next
    × (length frames + 1 + forest_depth here ≤ depth_limit)

-- the first n items lead to this place
pub record IsPlace (ts : List Token) (n : ℕ) (frames : List Frame) (here : Forest) : Type 0 where
  pub items_are : place_items frames here ≡ range_with_len 0 n
  pub lawful : IsLawful ts frames here []
