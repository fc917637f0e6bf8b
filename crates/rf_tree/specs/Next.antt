-- Trees that come next at the top of a file, behind those that were read before.
use Rattle.std.specs.Prelude.{ℕ, ◌≡◌, ◌⊎◌, ◌&&◌, ◌-◌, not, false, Some, List, [], ◌∷◌, ◌++◌, length, slice_get, ⊤}
use Rattle.rf_base_grammar.specs.Token.{Token, is_line_comment}
use Rattle.rf_base_grammar.specs.declared.items.Item.{Item}
use Rattle.rf_base_tree.specs.Trees.{Forest, Empty, Then}
use Rattle.rf_base_tree.specs.Slots.{entries_of}
use Rattle.rf_base_tree.specs.Cut.{slots_of}
use Rattle.rf_base_tree.specs.Places.{Frame, InList, InPrefix, InSkip, IsPlace}
use Rattle.rf_tree.specs.Nodes.{UnfoldTo, AreSound}
use Rattle.rf_tree.specs.Parsing.{StandsAt}
use Rattle.rf_tree.specs.declared.nodes.At.{At}
use Rattle.rf_tree.specs.Told.{Node}
use Rattle.rf_tree.specs.Told as node
use Rattle.rf_tree.specs.declared.parser.Parser.{Parser}

-- trees, and others behind them
abbrev pub followed_by : Forest → Forest → Forest
followed_by Empty others = others
followed_by (Then tree rest) others = Then tree (followed_by rest others)

-- what was begun, where trees stand before it
abbrev pub frame_behind : Forest → Frame → Frame
frame_behind done (InList before opener) = InList (followed_by done before) opener
frame_behind done (InPrefix before item) = InPrefix (followed_by done before) item
frame_behind done (InSkip before item) = InSkip (followed_by done before) item

-- the same of all that was begun, where the trees stand at the top
abbrev pub frames_behind : Forest → List Frame → List Frame
frames_behind done [] = []
frames_behind done (f ∷ []) = frame_behind done f ∷ []
frames_behind done (f ∷ g ∷ frames) = f ∷ frames_behind done (g ∷ frames)

-- the trees on the innermost level, where others stand before them at the top
abbrev pub here_behind : Forest → List Frame → Forest → Forest
here_behind done [] here = followed_by done here
here_behind done (f ∷ frames) here = here

-- the parser, which began behind these trees at the top, stands where the first n items lead to
pub record IsAtBehind (ts : List Token) (done : Forest) (n : ℕ) (parser : Parser) : Type 0 where
  pub frames : List Frame
  pub here : Forest
  pub place : IsPlace ts n (frames_behind done frames) (here_behind done frames here)
  pub stands : StandsAt ts parser frames here

-- the node is that of a datum, or of a dot
abbrev pub IsOfDatum : Node → Type 0
IsOfDatum (node.Leaf item) = ⊤
IsOfDatum (node.Prefixed item lead inner) = ⊤
IsOfDatum (node.ListNode opener entries closer) = ⊤
IsOfDatum (node.Comment item) = ⊥
IsOfDatum (node.DatumComment item lead inner) = ⊥

-- the last of these nodes is that of a datum
abbrev pub EndInDatum : List Node → List At → Type 0
EndInDatum nodes tops =
    (last : At) × (n : Node) × (slice_get tops (length tops - 1) ≡ Some last) × (slice_get nodes last.0 ≡ Some n)
    × IsOfDatum n

-- slots end where the parser stands, if this item comes next: nothing is begun, a datum stands last, and the item is no
-- comment on its line
pub record IsStop (parser : Parser) (next : Item) : Type 0 where
  pub none : parser.begun.items ≡ []
  pub last : EndInDatum parser.nodes parser.here.nodes.items
  pub next_is : (is_line_comment next.kind && not next.own_line) ≡ false

-- slots end where the parser stands, before the item of this number
abbrev pub StopsBefore : List Item → ℕ → Parser → Type 0
StopsBefore items next parser = (item : Item) × (slice_get items next ≡ Some item) × IsStop parser item

-- the slots of the file so far are slots of the file, whichever trees come next
unfoldable pub SlotsEnd : List Token → Forest → Type 0
SlotsEnd ts trees =
    (n : ℕ) (rest : Forest) → IsPlace ts n [] (followed_by trees rest)
    → slots_of false (entries_of ts (followed_by trees rest))
    ≡ slots_of false (entries_of ts trees) ++ slots_of false (entries_of ts rest)

-- behind these trees the nodes hold those that come next at the top of the file, up to an item, where slots end, or to
-- the last
pub record HoldNext (ts : List Token) (done : Forest) (nodes : List Node) (tops : List At) (next : ℕ) : Type 0 where
  pub part : Forest
  pub place : IsPlace ts next [] (followed_by done part)
  pub stand_for : UnfoldTo ts nodes tops part
  pub sound : AreSound ts nodes
  pub ends : (next ≡ length ts) ⊎ SlotsEnd ts (followed_by done part)
