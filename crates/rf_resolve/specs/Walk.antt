-- What is chosen of a core, as a walk finds it: columns and indentations past the width are all kept as the width and
-- 1, and what the choices weigh at least is counted.
use Rattle.std.specs.Prelude.{ℕ, ◌≡◌, ◌+◌, ◌<◌, ◌≤◌, min, List, [], ◌∷◌, ◌++◌, length, Option, None, Some, ⊤}
use Rattle.rf_base_document.specs.declared.directions.Dir.{Dir}
use Rattle.rf_base_document.specs.declared.directions.Dir.TheVariants.{Left}
use Rattle.rf_base_document.specs.declared.limits.TheConstants.{LAYOUT_LIMIT}
use Rattle.rf_base_document.specs.Document.{Doc, Text, Newline, Hard, Concat, Nest, Align, Reset, Flatten, Choice, Only}
use Rattle.rf_base_document.specs.Document.{Charge}
use Rattle.rf_base_document.specs.Graph.{GraphNode, unfolded}
use Rattle.rf_base_cost.specs.declared.measures.Measure.{Measure}
use Rattle.rf_base_cost.specs.Cost.{Costs}
use Rattle.rf_base_optimum.specs.Plain.{plain}
use Rattle.rf_flat.specs.Taken.{size_of}
use Rattle.rf_frontier.specs.declared.hows.How.{How}
use Rattle.rf_frontier.specs.declared.hows.HowId.{HowId}
use Rattle.rf_frontier.specs.Frontiers.{chosen}
use Rattle.rf_resolve.specs.declared.walks.Frame.{Frame}
use Rattle.rf_resolve.specs.declared.walks.Walk.{Walk}

-- the choices, the column that they end at, and a weight that they have at least
pub record Walked : Type 0 where
  pub choices : List Dir
  pub last : ℕ
  pub weight : ℕ

abbrev pub walked : List Dir → ℕ → ℕ → Walked
walked choices last weight = record { choices = choices; last = last; weight = weight }

-- a column or an indentation, of which those past w aren't told apart
abbrev pub at_most_past : ℕ → ℕ → ℕ
at_most_past w n = min n (w + 1)

-- the first measure of a frontier, whose weight is told by its choices alone; where there is none, what goes part by
-- part
abbrev pub first_walked : {C : Type 0} → List (Measure C (List Dir)) → Walked → Walked
first_walked [] by_parts = by_parts
first_walked (m ∷ rest) by_parts = walked m.how m.last (length m.how)

-- the first and then the second, which begins where the first ends
abbrev pub walked_both : Walked → (ℕ → Walked) → Walked
walked_both first second =
    let rest = second first.last in walked (first.choices ++ rest.choices) rest.last (first.weight + rest.weight)

-- a side behind the direction to it
abbrev pub walked_side : Dir → Walked → Walked
walked_side dir side = walked (dir ∷ side.choices) side.last (1 + side.weight)

-- what is chosen of a core at this column and indentation, neither of them more than w and 1
unfoldable pub walk : {C : Type 0} → Costs C → ℕ → Doc → ℕ → ℕ → Walked
walk costs w (Text s len) column indentation =
    first_walked (plain costs w (Text s len) column indentation) (walked [] (at_most_past w (column + len)) 1)
walk costs w Newline column indentation =
    first_walked (plain costs w Newline column indentation) (walked [] indentation 1)
walk costs w Hard column indentation = walked [] indentation 1
walk costs w (Concat a b) column indentation =
    first_walked (plain costs w (Concat a b) column indentation)
    (walked_both (walk costs w a column indentation) (λ last. walk costs w b last indentation))
walk costs w (Nest n a) column indentation =
    first_walked (plain costs w (Nest n a) column indentation)
    (walk costs w a column (at_most_past w (indentation + n)))
walk costs w (Align a) column indentation =
    first_walked (plain costs w (Align a) column indentation) (walk costs w a column column)
walk costs w (Reset a) column indentation =
    first_walked (plain costs w (Reset a) column indentation) (walk costs w a column 0)
walk costs w (Flatten a) column indentation = walk costs w a column indentation
walk costs w (Choice a b) column indentation =
    first_walked (plain costs w (Choice a b) column indentation) (walked_side Left (walk costs w a column indentation))
walk costs w (Only dir a) column indentation =
    first_walked (plain costs w (Only dir a) column indentation) (walked_side dir (walk costs w a column indentation))
walk costs w (Charge k a) column indentation =
    first_walked (plain costs w (Charge k a) column indentation) (walk costs w a column indentation)

-- the document of a frame
abbrev pub frame_doc : List GraphNode → Frame → Doc
frame_doc nodes frame = unfolded nodes frame.node

-- a walk over frames, the last one first
unfoldable pub walk_all : {C : Type 0} → Costs C → ℕ → List GraphNode → List Frame → ℕ → Walked
walk_all costs w nodes [] column = walked [] column 0
walk_all costs w nodes (frame ∷ frames) column =
    walked_both (walk_all costs w nodes frames column)
    (λ last. walk costs w (frame_doc nodes frame) last frame.indentation)

-- what was walked over, and then what is still pending
abbrev pub going : {C : Type 0} → Costs C → ℕ → List GraphNode → Walked → List Frame → Walked
going costs w nodes so_far pending = walked_both so_far (λ last. walk_all costs w nodes pending last)

-- what a walk comes to
abbrev pub outcome : {C : Type 0} → Costs C → ℕ → List GraphNode → Walk → Walked
outcome costs w nodes walk = going costs w nodes (walked walk.choices.items walk.column walk.weight) walk.pending.items

-- the same of a walk from which this frame was taken
abbrev pub outcome_with : {C : Type 0} → Costs C → ℕ → List GraphNode → Walk → Frame → Walked
outcome_with costs w nodes walk frame =
    going costs w nodes (walked walk.choices.items walk.column walk.weight) (walk.pending.items ++ frame ∷ [])

-- the frame names a node, and its indentation is at most w and 1
pub record IsFrame (nodes : List GraphNode) (w : ℕ) (frame : Frame) : Type 0 where
  pub node : frame.node < length nodes
  pub shallow : frame.indentation ≤ w + 1

-- each of these is a frame
unfoldable pub AreFrames : List GraphNode → ℕ → List Frame → Type 0
AreFrames nodes w [] = ⊤
AreFrames nodes w (frame ∷ frames) = IsFrame nodes w frame × AreFrames nodes w frames

-- the walk is within the limit on the weight, its column is at most w and 1, and what is pending are frames
pub record IsWalk (nodes : List GraphNode) (w : ℕ) (walk : Walk) : Type 0 where
  pub light : walk.weight ≤ LAYOUT_LIMIT
  pub few : length walk.choices.items ≤ walk.weight
  pub near : walk.column ≤ w + 1
  pub frames : AreFrames nodes w walk.pending.items

-- how many turns are left at most
unfoldable pub turns_of : List GraphNode → List Frame → ℕ
turns_of nodes [] = 0
turns_of nodes (frame ∷ frames) = size_of (frame_doc nodes frame) + turns_of nodes frames

-- the walk comes to the same as with this frame, is a walk, and has fewer turns left
abbrev pub Turned : {C : Type 0} → Costs C → ℕ → List GraphNode → Walk → Frame → Walk → Type 0
Turned costs w nodes old frame new =
    (outcome costs w nodes new ≡ outcome_with costs w nodes old frame)
    × IsWalk nodes w new
    × (turns_of nodes new.pending.items < turns_of nodes (old.pending.items ++ frame ∷ []))

-- the walk is still to begin with this node at column 0 and indentation 0
pub record StartsAt (root : ℕ) (walk : Walk) : Type 0 where
  pub choices : walk.choices.items ≡ []
  pub column : walk.column ≡ 0
  pub weight : walk.weight ≡ 0
  pub pending : walk.pending.items ≡ record { node = root; indentation = 0 } ∷ []

-- one more text, line break or choice is counted, and the rest is as before
pub record IsWeighed (old new : Walk) : Type 0 where
  pub choices : new.choices.items ≡ old.choices.items
  pub column : new.column ≡ old.column
  pub weight : new.weight ≡ old.weight + 1
  pub pending : new.pending.items ≡ old.pending.items
  pub light : new.weight ≤ LAYOUT_LIMIT

-- a text or a line break was passed, which ends at this column
pub record Passes (old : Walk) (column : ℕ) (new : Walk) : Type 0 where
  pub choices : new.choices.items ≡ old.choices.items
  pub column_is : new.column ≡ column
  pub weight : new.weight ≡ old.weight + 1
  pub pending : new.pending.items ≡ old.pending.items
  pub light : new.weight ≤ LAYOUT_LIMIT

-- the walk goes on with this node at this indentation
pub record GoesTo (old : Walk) (node indentation : ℕ) (new : Walk) : Type 0 where
  pub choices : new.choices.items ≡ old.choices.items
  pub column : new.column ≡ old.column
  pub weight : new.weight ≡ old.weight
  pub pending : new.pending.items ≡ old.pending.items ++ record { node = node; indentation = indentation } ∷ []

-- the walk took this direction, and goes on with this node at this indentation
pub record TakesSide (old : Walk) (dir : Dir) (node indentation : ℕ) (new : Walk) : Type 0 where
  pub choices : new.choices.items ≡ old.choices.items ++ dir ∷ []
  pub column : new.column ≡ old.column
  pub weight : new.weight ≡ old.weight + 1
  pub pending : new.pending.items ≡ old.pending.items ++ record { node = node; indentation = indentation } ∷ []
  pub light : new.weight ≤ LAYOUT_LIMIT

-- the walk took these choices, and has come to this column
pub record TakesAll (old : Walk) (choices : List Dir) (column : ℕ) (new : Walk) : Type 0 where
  pub choices_are : new.choices.items ≡ old.choices.items ++ choices
  pub column_is : new.column ≡ column
  pub weight : new.weight ≡ old.weight + length choices
  pub pending : new.pending.items ≡ old.pending.items
  pub light : new.weight ≤ LAYOUT_LIMIT

-- the frontier has no measure, or its first one is this, with a way for its choices
abbrev pub FirstIs : {C : Type 0} → List (Measure C (List Dir)) → List How → Option (Measure C HowId) → Type 0
FirstIs found ways None = found ≡ []
FirstIs {C} found ways (Some m) =
    (m.how.0 < length ways) × (rest : List (Measure C (List Dir))) × (found ≡ chosen ways m ∷ rest)

-- the list is empty, or this is its first member
abbrev pub HeadIs : {A : Type 0} → List A → Option A → Type 0
HeadIs list None = length list ≡ 0
HeadIs {A} list (Some x) = (rest : List A) × (list ≡ x ∷ rest)
