-- A core laid out by choices, part after part: what is written, and what the parts leave.
use Rattle.std.specs.Prelude.{◌≡◌, ℕ, ◌+◌, min, Bool, true, false, List, [], ◌∷◌, ◌++◌, Option, None, Some}
use Rattle.rf_base_document.specs.declared.directions.Dir.{Dir}
use Rattle.rf_base_document.specs.declared.directions.Dir.TheVariants.{Left, Right}
use Rattle.rf_base_document.specs.declared.limits.TheConstants.{LAYOUT_LIMIT}
use Rattle.rf_base_document.specs.Document.{Doc, Text, Newline, Hard, Concat, Nest, Align, Reset, Flatten, Choice, Only}
use Rattle.rf_base_document.specs.Document.{Charge}
use Rattle.rf_base_document.specs.Render.{Piece, Word, Break, Fee, column_after}
use Rattle.rf_base_document.specs.Simple.{simple}
use Rattle.rf_flat.specs.Taken.{size_of}
use Rattle.rf_walk.specs.declared.walking.Frame.{Frame}
use Rattle.rf_walk.specs.Papers.{IsPastLimits}

-- what a walk writes: pieces up to a column, of this weight; and the choices that it leaves
pub record Walked : Type 0 where
  pub pieces : List Piece
  pub last : ℕ
  pub weight : ℕ
  pub left : List Dir

abbrev pub walked : List Piece → ℕ → ℕ → List Dir → Walked
walked pieces last weight left = record { pieces = pieces; last = last; weight = weight; left = left }

-- the first and then the second, where there is a second
abbrev pub and_walked : Walked → Option Walked → Option Walked
and_walked first None = None
and_walked first (Some second) =
    Some (walked (first.pieces ++ second.pieces) second.last (first.weight + second.weight) second.left)

-- what follows, at the column and with the choices that the first leaves
abbrev pub then_walked : Option Walked → (ℕ → List Dir → Option Walked) → Option Walked
then_walked None rest = None
then_walked (Some first) rest = and_walked first (rest first.last first.left)

-- an indentation with n columns more, of which those past 67,108,865 aren't counted: a break to it is too long anyhow
abbrev pub deeper : ℕ → ℕ → ℕ
deeper indentation n = min (indentation + n) (LAYOUT_LIMIT + 1)

-- the first choice goes to one of two sides
abbrev pub side_walked : ℕ → List Dir → (List Dir → Option Walked) → (List Dir → Option Walked) → Option Walked
side_walked column [] first second = None
side_walked column (Left ∷ choices) first second = and_walked (walked [] column 1 choices) (first choices)
side_walked column (Right ∷ choices) first second = and_walked (walked [] column 1 choices) (second choices)

-- the first choice goes to the side that is left
abbrev pub only_walked : Dir → ℕ → List Dir → (List Dir → Option Walked) → Option Walked
only_walked Left column (Left ∷ choices) side = and_walked (walked [] column 1 choices) (side choices)
only_walked Right column (Right ∷ choices) side = and_walked (walked [] column 1 choices) (side choices)
only_walked _ column _ side = None

-- a walk over the core's document at this column and indentation, with these choices
unfoldable pub walk : Doc → ℕ → ℕ → List Dir → Option Walked
walk (Text s len) column indentation choices = Some (walked (Word column s len ∷ []) (column + len) 1 choices)
walk Newline column indentation choices = Some (walked (Break indentation ∷ []) indentation 1 choices)
walk Hard column indentation choices = None
walk (Concat a b) column indentation choices =
    then_walked (walk a column indentation choices) (λ last left. walk b last indentation left)
walk (Nest n a) column indentation choices = walk a column (deeper indentation n) choices
walk (Align a) column indentation choices = walk a column column choices
walk (Reset a) column indentation choices = walk a column 0 choices
walk (Flatten a) column indentation choices = None
walk (Choice a b) column indentation choices =
    side_walked column choices (λ rest. walk a column indentation rest) (λ rest. walk b column indentation rest)
walk (Only dir a) column indentation choices = only_walked dir column choices (λ rest. walk a column indentation rest)
walk (Charge k a) column indentation choices =
    and_walked (walked (Fee k ∷ []) column 0 choices) (walk a column indentation choices)

-- a newline: one space where it is flat, and otherwise a break to this indentation
abbrev pub newline_piece : Bool → ℕ → ℕ → Piece
newline_piece true indentation column = Word column (32 ∷ []) 1
newline_piece false indentation column = Break indentation

-- a walk over a core, if there is one
abbrev pub walk_core : Option Doc → ℕ → ℕ → List Dir → Option Walked
walk_core None column indentation choices = None
walk_core (Some s) column indentation choices = walk s column indentation choices

-- the document of a frame
abbrev pub frame_doc : {N : Type 0} → (N → Doc) → Frame N → Doc
frame_doc document frame = document frame.node

-- a walk over the core of a frame's document, flat where the frame is
abbrev pub walk_frame : {N : Type 0} → (N → Doc) → Frame N → ℕ → List Dir → Option Walked
walk_frame document frame column choices =
    walk_core (simple (frame_doc document frame) frame.flat) column frame.indentation choices

-- a walk over frames, the last one first
unfoldable pub walk_all : {N : Type 0} → (N → Doc) → List (Frame N) → ℕ → List Dir → Option Walked
walk_all document [] column choices = Some (walked [] column 0 choices)
walk_all document (frame ∷ frames) column choices =
    then_walked (walk_all document frames column choices) (λ last left. walk_frame document frame last left)

-- how a walk ends: the pieces, the weight, and the choices that are left over
pub record Ending : Type 0 where
  pub pieces : List Piece
  pub weight : ℕ
  pub left : List Dir

abbrev pub ending : List Piece → ℕ → List Dir → Ending
ending pieces weight left = record { pieces = pieces; weight = weight; left = left }

-- the ending of what stands already and a walk
abbrev pub ended : List Piece → ℕ → Option Walked → Option Ending
ended pieces weight None = None
ended pieces weight (Some rest) = Some (ending (pieces ++ rest.pieces) (weight + rest.weight) rest.left)

-- how many turns are left at most
unfoldable pub turns_of : {N : Type 0} → (N → Doc) → List (Frame N) → ℕ
turns_of document [] = 0
turns_of document (frame ∷ frames) = size_of (frame_doc document frame) + turns_of document frames

-- the walk can go on from what stands on the paper, and has this ending
pub record CanGoOn {N : Type 0} (holds : List Piece → ℕ → Type 0) (document : N → Doc) (frames : List (Frame N))
    (choices : List Dir) (end : Ending) : Type 0 where
  pub pieces : List Piece
  pub weight : ℕ
  pub held : holds pieces weight
  pub ends : ended pieces weight (walk_all document frames (column_after 0 pieces) choices) ≡ Some end

-- an ending that is too long
abbrev pub IsPastLimit : Ending → Type 0
IsPastLimit end = IsPastLimits end.pieces end.weight

-- a moment of a walk: the paper as it is then, the frames that are left, and the choices
pub record Moment (P N : Type 0) : Type 0 where
  pub paper : P
  pub frames : List (Frame N)
  pub choices : List Dir

abbrev pub moment : {P N : Type 0} → P → List (Frame N) → List Dir → Moment P N
moment paper frames choices = record { paper = paper; frames = frames; choices = choices }

-- from this moment on, with what was put on that blank paper, the walk has this ending
abbrev pub EndsSo : {P N : Type 0} → (P → P → List Piece → ℕ → Type 0) → (N → Doc) → Moment P N → P → Ending → Type 0
EndsSo holds document now blank end = CanGoOn (holds blank now.paper) document now.frames now.choices end

-- the walk has some ending
abbrev pub EndsSomehow : {P N : Type 0} → (P → P → List Piece → ℕ → Type 0) → (N → Doc) → Moment P N → Type 0
EndsSomehow {P} holds document now = (blank : P) × (end : Ending) × EndsSo holds document now blank end

-- whatever ending it has it still has at the later moment
abbrev pub EndsAsBefore : {P N : Type 0} → (P → P → List Piece → ℕ → Type 0) → (N → Doc) → Moment P N → Moment P N →
    Type 0
EndsAsBefore {P} holds document before now =
    (blank : P) (end : Ending) → EndsSo holds document before blank end → EndsSo holds document now blank end

-- whatever ending it has is too long
abbrev pub EndsTooLong : {P N : Type 0} → (P → P → List Piece → ℕ → Type 0) → (N → Doc) → Moment P N → Type 0
EndsTooLong {P} holds document now = (blank : P) (end : Ending) → EndsSo holds document now blank end → IsPastLimit end
