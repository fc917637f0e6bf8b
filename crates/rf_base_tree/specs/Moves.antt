-- From a place to the next, item by item: the plain slow reader of trees beside the definitions. That it goes on and
-- halts just where they say is proved in proofs/MoveMeans.antt.
use Rattle.std.specs.Prelude.{ℕ, ◌&&◌, not, if◌then◌else◌, nat_lt, Bool, true, false, Option, Some, List, [], ◌∷◌, length, codes}
use Rattle.rf_base_grammar.specs.Reader.{begins}
use Rattle.rf_base_grammar.specs.Token.{Token}
use Rattle.rf_base_grammar.specs.declared.kinds.Bracket.{Bracket}
use Rattle.rf_base_grammar.specs.declared.kinds.Bracket.TheVariants.{Round, Square, Curly}
use Rattle.rf_base_grammar.specs.declared.kinds.Kind.{Kind}
use Rattle.rf_base_grammar.specs.declared.kinds.Kind.TheVariants.{Opener, Closer, Prefix, Skip, Dot, Block, Line}
use Rattle.rf_base_tree.specs.Trees.{Tree, Leaf, Point, Comment, Prefixed, DatumComment, Listed, Forest, Empty, Then, kind_at, spelling_at}
use Rattle.rf_base_tree.specs.Dots.{marks_of}
use Rattle.rf_base_tree.specs.Dotting.{Dotting, NoData, walk, takes_datum, takes_dot, ends_in_dot}
use Rattle.rf_base_tree.specs.Formed.{depth_limit}
use Rattle.rf_base_tree.specs.Places.{Frame, InList, InPrefix, InSkip}
use Rattle.rf_base_tree.specs.declared.refusals.TreeKind.{TreeKind}
use Rattle.rf_base_tree.specs.declared.refusals.TreeKind.TheVariants.{CloseWithout, CloseMismatch, NothingAfter, BadDot, TooDeep}

-- on to a place, or a halt for a reason that tells an item
pub data Move : Type 0 where
  Goes : (frames : List Frame) (here : Forest) → Move
  Halts : (kind : TreeKind) (item : ℕ) → Move

-- the trees, and one more behind them
abbrev pub push : Forest → Tree → Forest
push Empty t = Then t Empty
push (Then u f) t = Then u (push f t)

-- the place behind a datum: it completes the prefixes on top, and the skip below them
abbrev pub behind_datum : List Frame → Forest → Tree → Move
behind_datum [] here t = Goes [] (push here t)
behind_datum (InList before opener ∷ frames) here t = Goes (InList before opener ∷ frames) (push here t)
behind_datum (InPrefix before item ∷ frames) here t = behind_datum frames before (Prefixed item here t)
behind_datum (InSkip before item ∷ frames) here t = Goes frames (push before (DatumComment item here t))

-- what the list so far is read as
abbrev pub dots_so_far : Forest → Dotting
dots_so_far here = walk NoData (marks_of here)

-- whether a datum can stand here
abbrev pub datum_may_stand : List Frame → Forest → Bool
datum_may_stand (InList before opener ∷ frames) here = takes_datum (dots_so_far here)
datum_may_stand _ here = true

-- whether a dot can stand here
abbrev pub dot_may_stand : List Token → List Frame → Forest → Bool
dot_may_stand ts (InList before opener ∷ frames) here =
    not (begins (codes "#") (spelling_at ts opener)) && takes_dot (dots_so_far here)
dot_may_stand ts _ here = false

-- the move, or a halt for a dot's sake at the item
abbrev pub unless_bad_dot : Bool → ℕ → Move → Move
unless_bad_dot true n move = move
unless_bad_dot false n move = Halts BadDot n

-- on into what the item begins, where no more is begun than may be
abbrev pub begin : Frame → ℕ → List Frame → Move
begin f n frames = if nat_lt (length frames) depth_limit then Goes (f ∷ frames) Empty else Halts TooDeep n

-- whether the brackets are the same
abbrev pub same_bracket : Bracket → Bracket → Bool
same_bracket Round Round = true
same_bracket Square Square = true
same_bracket Curly Curly = true
same_bracket _ _ = false

-- a list is closed, where its opener's kind is this
abbrev pub close_list : Option Kind → Bracket → ℕ → List Frame → Forest → ℕ → Forest → Move
close_list (Some (Opener b)) c n frames before opener here =
    if same_bracket b c
    then unless_bad_dot (not (ends_in_dot (dots_so_far here))) n (behind_datum frames before (Listed opener here n))
    else Halts CloseMismatch n
close_list _ c n frames before opener here = Halts CloseMismatch n

-- at a closer
abbrev pub close : List Token → Bracket → ℕ → List Frame → Forest → Move
close ts c n [] here = Halts CloseWithout n
close ts c n (InList before opener ∷ frames) here = close_list (kind_at ts opener) c n frames before opener here
close ts c n (InPrefix before item ∷ frames) here = Halts NothingAfter item
close ts c n (InSkip before item ∷ frames) here = Halts NothingAfter item

-- at an item of the kind
abbrev pub move_at : List Token → Kind → ℕ → List Frame → Forest → Move
move_at ts (Opener b) n frames here = unless_bad_dot (datum_may_stand frames here) n (begin (InList here n) n frames)
move_at ts (Closer c) n frames here = close ts c n frames here
move_at ts Prefix n frames here = unless_bad_dot (datum_may_stand frames here) n (begin (InPrefix here n) n frames)
move_at ts Skip n frames here = begin (InSkip here n) n frames
move_at ts Dot n frames here = unless_bad_dot (dot_may_stand ts frames here) n (Goes frames (push here (Point n)))
move_at ts Block n frames here = Goes frames (push here (Comment n))
move_at ts Line n frames here = Goes frames (push here (Comment n))
move_at ts _ n frames here = unless_bad_dot (datum_may_stand frames here) n (behind_datum frames here (Leaf n))
