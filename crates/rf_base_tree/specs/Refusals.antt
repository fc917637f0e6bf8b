-- Which items make no tree, and why.
use Rattle.std.specs.Prelude.{ℕ, ◌≡◌, ◌≢◌, ◌⊎◌, Bool, true, false, Some, List, [], ◌∷◌, ◌++◌, length, codes, ⊤}
use Rattle.rf_base_grammar.specs.Characters.{BeginsWith}
use Rattle.rf_base_grammar.specs.Token.{Token, opens, closes}
use Rattle.rf_base_grammar.specs.declared.kinds.Bracket.{Bracket}
use Rattle.rf_base_grammar.specs.declared.kinds.Kind.{Kind}
use Rattle.rf_base_grammar.specs.declared.kinds.Kind.TheVariants.{Opener, Closer, Prefix, Dot, Atom, Str, Here, Lang}
use Rattle.rf_base_tree.specs.Trees.{Forest, kind_at, spelling_at, start_at}
use Rattle.rf_base_tree.specs.Dots.{Mark, OfDatum, OfDot, marks_of, AllData}
use Rattle.rf_base_tree.specs.Formed.{KindPasses, depth_limit}
use Rattle.rf_base_tree.specs.Places.{Frame, InList, InPrefix, InSkip, IsPlace}
use Rattle.rf_base_tree.specs.declared.refusals.TreeKind.{TreeKind}
use Rattle.rf_base_tree.specs.declared.refusals.TreeKind.TheVariants.{CloseWithout, CloseMismatch, OpenList, NothingAfter, BadDot, TooDeep}

-- whether an item of the kind begins a datum
abbrev pub begins_datum : Kind → Bool
begins_datum (Opener b) = true
begins_datum Prefix = true
begins_datum Atom = true
begins_datum Str = true
begins_datum Here = true
begins_datum Lang = true
begins_datum _ = false

-- the last thing, comments aside, is a dot
abbrev pub EndsInDot : List Mark → Type 0
EndsInDot marks = (front : List Mark) × (marks ≡ front ++ OfDot ∷ [])

-- there is exactly one dot, and one datum behind it
abbrev pub IsDotted : List Mark → Type 0
IsDotted marks = (front : List Mark) × (marks ≡ front ++ OfDot ∷ OfDatum ∷ []) × AllData front

-- there are two dots already
abbrev pub HoldsTwoDots : List Mark → Type 0
HoldsTwoDots marks =
    (front : List Mark) × (middle : List Mark) × (back : List Mark)
    × (marks ≡ front ++ OfDot ∷ (middle ++ OfDot ∷ back))

-- a list that was begun doesn't take a dot behind what it holds
abbrev pub TakesNoDot : List Token → ℕ → List Mark → Type 0
TakesNoDot ts opener marks =
    BeginsWith (codes "#") (spelling_at ts opener) ⊎ (marks ≡ []) ⊎ HoldsTwoDots marks ⊎ EndsInDot marks

-- a prefix or a skip is on top, and this is its item
abbrev pub IsOnTop : List Frame → ℕ → Type 0
IsOnTop [] item = ⊥
IsOnTop (InList before opener ∷ frames) item = ⊥
IsOnTop (InPrefix before prefix ∷ frames) item = item ≡ prefix
IsOnTop (InSkip before skip ∷ frames) item = item ≡ skip

-- no dot can stand here: nothing is begun, a prefix or a skip is on top, or the list on top takes none
abbrev pub NoDotHere : List Token → List Frame → List Mark → Type 0
NoDotHere ts (InList before opener ∷ frames) marks = TakesNoDot ts opener marks
NoDotHere ts _ marks = ⊤

-- no datum can begin here: the list on top has exactly one dot and one datum behind it
abbrev pub NoDatumHere : List Frame → List Mark → Type 0
NoDatumHere (InList before opener ∷ frames) marks = IsDotted marks
NoDatumHere _ marks = ⊥

-- the list on top has this opener
abbrev pub IsOpenHere : List Frame → ℕ → Type 0
IsOpenHere (InList before first ∷ frames) opener = opener ≡ first
IsOpenHere _ opener = ⊥

-- a closer can't stand where the list on top ends in a dot
abbrev pub ClosesBehindDot : List Token → ℕ → List Frame → List Mark → Type 0
ClosesBehindDot ts n frames marks =
    (opener : ℕ) × IsOpenHere frames opener × EndsInDot marks
    × ((b : Bracket) × (kind_at ts opener ≡ Some (Opener b)) × (kind_at ts n ≡ Some (Closer b)))

-- item n, or the end, can't go on at this place, for this reason; the reason tells the item
abbrev pub CannotGoOn : List Token → ℕ → List Frame → Forest → TreeKind → ℕ → Type 0
CannotGoOn ts n frames here CloseWithout item = (item ≡ n) × KindPasses closes ts n × (frames ≡ [])
CannotGoOn ts n frames here CloseMismatch item =
    (item ≡ n)
    × ((opener : ℕ) × (b : Bracket) × (c : Bracket) × IsOpenHere frames opener × (kind_at ts opener ≡ Some (Opener b))
    × (kind_at ts n ≡ Some (Closer c)) × (b ≢ c))
CannotGoOn ts n frames here OpenList item = (n ≡ length ts) × IsOpenHere frames item
CannotGoOn ts n frames here NothingAfter item = IsOnTop frames item × (KindPasses closes ts n ⊎ (n ≡ length ts))
CannotGoOn ts n frames here BadDot item =
    (item ≡ n)
    × (ClosesBehindDot ts n frames (marks_of here)
    ⊎ ((kind_at ts n ≡ Some Dot) × NoDotHere ts frames (marks_of here))
    ⊎ (KindPasses begins_datum ts n × NoDatumHere frames (marks_of here)))
-- what opens here isn't complete with its item, and as many such things stand open as may
CannotGoOn ts n frames here TooDeep item =
    (item ≡ n) × KindPasses opens ts n × (length frames ≡ depth_limit)
    × (KindPasses begins_datum ts n → NoDatumHere frames (marks_of here) → ⊥)

-- the first item that can't go on, or the end, is refused for this reason, and the offset is that of the item it tells
pub record TreeRefused (ts : List Token) (kind : TreeKind) (offset : ℕ) : Type 0 where
  pub n : ℕ
  pub frames : List Frame
  pub here : Forest
  pub place : IsPlace ts n frames here
  pub item : ℕ
  pub halts : CannotGoOn ts n frames here kind item
  pub offset_is : offset ≡ start_at ts item
