-- Where the parser stands, and what each of its steps does.
use Rattle.std.specs.Prelude.{ℕ, ◌≡◌, ◌≢◌, ◌<◌, ◌≤◌, ◌-◌, nat_lt, Bool, true, false, Option, None, Some, List, [], ◌∷◌}
use Rattle.std.specs.Prelude.{◌++◌, length, codes, ⊤}
use Rattle.std.specs.List.{AllByRecursion}
use Rattle.rf_base_grammar.specs.Reader.{begins}
use Rattle.rf_base_grammar.specs.Token.{Token}
use Rattle.rf_base_grammar.specs.declared.items.Item.{Item}
use Rattle.rf_base_grammar.specs.declared.kinds.Bracket.{Bracket}
use Rattle.rf_base_grammar.specs.declared.kinds.Kind.TheVariants.{Opener, Closer, Prefix, Skip, Dot}
use Rattle.rf_base_tree.specs.Trees.{Tree, Listed, Forest, kind_at, spelling_at, start_at}
use Rattle.rf_base_tree.specs.Dotting.{ends_in_dot}
use Rattle.rf_base_tree.specs.Formed.{KindPasses, is_whole, IsDatum, depth_limit, Treed}
use Rattle.rf_base_tree.specs.Places.{Frame, InList, InPrefix, InSkip}
use Rattle.rf_base_tree.specs.Refusals.{TreeRefused}
use Rattle.rf_base_tree.specs.Moves.{Move, Goes, Halts, behind_datum}
use Rattle.rf_base_tree.specs.declared.refusals.TreeKind.{TreeKind}
use Rattle.rf_base_tree.specs.declared.refusals.TreeKind.TheVariants as kind
use Rattle.rf_tree.specs.Nodes.{UnfoldsTo, parts_of, NamesBelow, AreSound}
use Rattle.rf_tree.specs.Dots.{dotting_of}
use Rattle.rf_tree.specs.Levels.{IsLevel, Gains}
use Rattle.rf_tree.specs.declared.nodes.At.{At}
use Rattle.rf_tree.specs.Told.{Node}
use Rattle.rf_tree.specs.Told as node
use Rattle.rf_tree.specs.declared.trees.TreeError.{TreeError}
use Rattle.rf_tree.specs.declared.trees.TreeError.TheVariants as fault
use Rattle.rf_tree.specs.declared.dots.Dots.TheVariants.{NoData}
use Rattle.rf_tree.specs.declared.levels.Level.{Level}
use Rattle.rf_tree.specs.declared.parser.Opened.{Opened}
use Rattle.rf_tree.specs.declared.parser.Opened.TheVariants as opened
use Rattle.rf_tree.specs.declared.parser.Begun.{Begun}
use Rattle.rf_tree.specs.declared.parser.Parser.{Parser}

-- the item has this number; an opener of more than one byte begins with a hash sign
pub record IsItem (ts : List Token) (number : ℕ) (item : Item) : Type 0 where
  pub kind_is : kind_at ts number ≡ Some item.kind
  pub start_is : start_at ts number ≡ item.start
  pub hash_is : (b : Bracket) → item.kind ≡ Opener b
      → begins (codes "#") (spelling_at ts number) ≡ nat_lt 1 (item.end - item.start)

-- what was begun with the item of this number, behind these trees
abbrev pub frame_of : Opened → ℕ → Forest → Frame
frame_of (opened.List bracket hashed) number before = InList before number
frame_of opened.Prefix number before = InPrefix before number
frame_of opened.Skip number before = InSkip before number

-- the item begins this: a list, whose opener has this bracket and begins with a hash sign or doesn't, a prefix, or a
-- skip
abbrev pub IsOpened : List Token → Opened → ℕ → Type 0
IsOpened ts (opened.List bracket hashed) number =
    (kind_at ts number ≡ Some (Opener bracket)) × (begins (codes "#") (spelling_at ts number) ≡ hashed)
IsOpened ts opened.Prefix number = kind_at ts number ≡ Some Prefix
IsOpened ts opened.Skip number = kind_at ts number ≡ Some Skip

-- what was begun is these, the innermost last
abbrev pub AreBegun : List Token → List Node → List Begun → List Frame → Type 0
AreBegun ts nodes begun [] = begun ≡ []
AreBegun ts nodes begun (f ∷ frames) =
    (outer : List Begun) × (last : Begun) × (before : Forest) × (begun ≡ outer ++ last ∷ [])
    × (f ≡ frame_of last.opened last.item before) × IsLevel ts nodes last.before before
    × IsOpened ts last.opened last.item × (last.start ≡ start_at ts last.item) × AreBegun ts nodes outer frames

-- the parser stands at this place
pub record StandsAt (ts : List Token) (parser : Parser) (frames : List Frame) (here : Forest) : Type 0 where
  pub begun_are : AreBegun ts parser.nodes parser.begun.items frames
  pub here_is : IsLevel ts parser.nodes parser.here here
  pub sound : AreSound ts parser.nodes

-- the parser stands where the move goes
abbrev pub Follows : List Token → Parser → Move → Type 0
Follows ts parser (Goes frames here) = StandsAt ts parser frames here
Follows ts parser (Halts why item) = ⊥

-- the move halts for this reason, at this byte
abbrev pub IsHalt : List Token → TreeKind → ℕ → Move → Type 0
IsHalt ts k offset (Goes frames here) = ⊥
IsHalt ts k offset (Halts why item) = (k ≡ why) × (offset ≡ start_at ts item)

-- the move halts so, unless memory ran out
abbrev pub HaltsSo : List Token → TreeError → Move → Type 0
HaltsSo ts (fault.Refused k offset) move = IsHalt ts k offset move
HaltsSo ts (fault.Memory e) move = ⊤

-- wherever the parser stood, the items being such, it makes this move
abbrev pub Moves : Parser → Parser → (List Token → Type 0) → (List Token → List Frame → Forest → Move) → Type 0
Moves old new AreSuch move =
    (ts : List Token) (frames : List Frame) (here : Forest) → StandsAt ts old frames here → AreSuch ts
    → Follows ts new (move ts frames here)

-- wherever the parser stood, the items being such, this move halts so
abbrev pub Fails : Parser → TreeError → (List Token → Type 0) → (List Token → List Frame → Forest → Move) → Type 0
Fails old fault AreSuch move =
    (ts : List Token) (frames : List Frame) (here : Forest) → StandsAt ts old frames here → AreSuch ts
    → HaltsSo ts fault (move ts frames here)

-- the item of the number begins this, at this byte
abbrev pub IsOpenedAt : List Token → Opened → ℕ → ℕ → Type 0
IsOpenedAt ts what number start = IsOpened ts what number × (start_at ts number ≡ start)

-- the item of the number is a dot, a datum by itself, or a closer of this bracket, and begins at this byte
abbrev pub IsDotAt : List Token → ℕ → ℕ → Type 0
IsDotAt ts number start = (kind_at ts number ≡ Some Dot) × (start_at ts number ≡ start)

abbrev pub IsWholeAt : List Token → ℕ → ℕ → Type 0
IsWholeAt ts number start = KindPasses is_whole ts number × (start_at ts number ≡ start)

abbrev pub IsCloserAt : List Token → Bracket → ℕ → ℕ → Type 0
IsCloserAt ts bracket number start = (kind_at ts number ≡ Some (Closer bracket)) × (start_at ts number ≡ start)

-- the innermost thing that was begun is this, if any is
abbrev pub IsTop : List Begun → Option Opened → Type 0
IsTop begun None = begun ≡ []
IsTop begun (Some what) = (outer : List Begun) × (last : Begun) × (begun ≡ outer ++ last ∷ []) × (last.opened ≡ what)

-- the innermost thing that was begun isn't this
abbrev pub IsNotTop : Opened → List Begun → Type 0
IsNotTop what begun = (top : Option Opened) × IsTop begun top × (top ≢ Some what)

-- nothing was changed
pub record IsAsBefore (old new : Parser) : Type 0 where
  pub nodes : new.nodes ≡ old.nodes
  pub here : new.here ≡ old.here
  pub begun : new.begun.items ≡ old.begun.items

-- the node was kept behind the others
pub record Keeps (added : Node) (old new : Parser) : Type 0 where
  pub nodes : new.nodes ≡ old.nodes ++ added ∷ []
  pub here : new.here ≡ old.here
  pub begun : new.begun.items ≡ old.begun.items

-- what was begun last was taken away
pub record Pops (last : Begun) (old new : Parser) : Type 0 where
  pub nodes : new.nodes ≡ old.nodes
  pub here : new.here ≡ old.here
  pub begun : old.begun.items ≡ new.begun.items ++ last ∷ []

-- the level before is the innermost one again
pub record Leaves (before : Level) (old new : Parser) : Type 0 where
  pub nodes : new.nodes ≡ old.nodes
  pub here : new.here ≡ before
  pub begun : new.begun.items ≡ old.begun.items

-- something was begun, and nothing stands in it yet
pub record Begins (what : Opened) (number start : ℕ) (old new : Parser) : Type 0 where
  pub room : length old.begun.items < depth_limit
  pub nodes : new.nodes ≡ old.nodes
  pub here : new.here.nodes.items ≡ []
  pub dots : new.here.dots ≡ NoData
  pub begun : (last : Begun) × (new.begun.items ≡ old.begun.items ++ last ∷ []) × (last.before ≡ old.here)
      × (last.item ≡ number) × (last.start ≡ start) × (last.opened ≡ what)

-- as many things are begun as may be, unless memory ran out
abbrev pub TooDeepHere : ℕ → Parser → TreeError → Type 0
TooDeepHere start old (fault.Refused k offset) =
    (k ≡ kind.TooDeep) × (offset ≡ start) × (depth_limit ≤ length old.begun.items)
TooDeepHere start old (fault.Memory e) = ⊤

-- the list can't end: its bracket isn't the closer's, or it ends in a dot
abbrev pub CannotEnd : Bool → ℕ → Level → TreeError → Type 0
CannotEnd false start here e = e ≡ fault.Refused kind.CloseMismatch start
CannotEnd true start here e =
    (e ≡ fault.Refused kind.BadDot start) × (ends_in_dot (dotting_of here.dots) ≡ true)

-- the node, kept behind these, stands for this tree, names nodes before it and items that are there
pub record Makes (ts : List Token) (nodes : List Node) (added : Node) (tree : Tree) : Type 0 where
  pub unfolds : UnfoldsTo ts (nodes ++ added ∷ []) (length nodes) tree
  pub parts_first : AllByRecursion (λ part. part.0 < length nodes) (parts_of added)
  pub names : NamesBelow (length ts) added

-- the node, where it is a datum's, stands here, and completes what it completes
abbrev pub Stands : Node → Parser → Parser → Type 0
Stands added old new =
    (ts : List Token) (frames : List Frame) (here : Forest) (tree : Tree) → StandsAt ts old frames here
    → Makes ts old.nodes added tree → IsDatum tree → Follows ts new (behind_datum frames here tree)

-- the list that was begun last and was taken away ends with what stands here, and stands behind what stood before it
abbrev pub Ends : Begun → ℕ → Parser → Parser → Type 0
Ends list number old new =
    (ts : List Token) (frames : List Frame) (before here : Forest) → StandsAt ts old frames here
    → IsLevel ts old.nodes list.before before → list.item < length ts → number < length ts
    → Follows ts new (behind_datum frames before (Listed list.item here number))

-- with the datum at this node, which doesn't stand anywhere yet, the parser is to make this move
pub record Carries (ts : List Token) (parser : Parser) (at : At) (move : Move) : Type 0 where
  pub frames : List Frame
  pub here : Forest
  pub tree : Tree
  pub stands : StandsAt ts parser frames here
  pub unfolds : UnfoldsTo ts parser.nodes at.0 tree
  pub datum : IsDatum tree
  pub leads : behind_datum frames here tree ≡ move

-- the prefix that was begun last and was taken away, what stood here and the datum at this node were made one node, and
-- what stood before the prefix stands here again
pub record WrapsPrefix (prefix : Begun) (inner : At) (old new : Parser) : Type 0 where
  pub lead : List At
  pub lead_is : lead ≡ old.here.nodes.items
  pub nodes : new.nodes ≡ old.nodes ++ node.Prefixed prefix.item lead inner ∷ []
  pub here : new.here ≡ prefix.before
  pub begun : new.begun.items ≡ old.begun.items

-- the same of a skip, and the node stands behind what stood before it, as a comment
pub record CommentsOut (skip : Begun) (inner : At) (old new : Parser) : Type 0 where
  pub lead : List At
  pub lead_is : lead ≡ old.here.nodes.items
  pub nodes : new.nodes ≡ old.nodes ++ node.DatumComment skip.item lead inner ∷ []
  pub here : (at : At) × (at.0 ≡ length old.nodes) × Gains at [] skip.before new.here
  pub begun : new.begun.items ≡ old.begun.items

-- what is wrong where this is left open at the end
abbrev pub kind_left_open : Opened → TreeKind
kind_left_open (opened.List bracket hashed) = kind.OpenList
kind_left_open opened.Prefix = kind.NothingAfter
kind_left_open opened.Skip = kind.NothingAfter

-- the items are refused so, unless memory ran out
abbrev pub TreeFault : List Token → TreeError → Type 0
TreeFault ts (fault.Refused k offset) = TreeRefused ts k offset
TreeFault ts (fault.Memory e) = ⊤

-- no refusal holds of the items
abbrev pub HasNoRefusal : List Token → Type 0
HasNoRefusal ts = (k : TreeKind) (offset : ℕ) → TreeRefused ts k offset → ⊥

-- the fault is a refusal
abbrev pub IsRefusal : TreeError → Type 0
IsRefusal (fault.Refused k offset) = ⊤
IsRefusal (fault.Memory e) = ⊥

-- the items have no tree
abbrev pub HasNoTree : List Token → Type 0
HasNoTree ts = (trees : Forest) → Treed ts trees → ⊥
