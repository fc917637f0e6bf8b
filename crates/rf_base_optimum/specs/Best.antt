-- What the choices are worth: no resolution within the width costs less, or, where none is within, the same part by
-- part.
use Rattle.std.specs.Prelude.{ℕ, ◌≡◌, ◌+◌, ◌⊎◌, Bool, true, List, [], ◌∷◌, ◌++◌, Some}
use Rattle.rf_base_document.specs.declared.directions.Dir.{Dir}
use Rattle.rf_base_document.specs.declared.directions.Dir.TheVariants.{Left, Right}
use Rattle.rf_base_document.specs.Document.{Doc, Text, Newline, Hard, Concat, Nest, Align, Reset, Flatten, Choice, Only, Charge}
use Rattle.rf_base_document.specs.Render.{Piece, Laid, Within}
use Rattle.rf_base_document.specs.Picks.{LaidOutBy, HasLayout}
use Rattle.rf_base_cost.specs.Cost.{Costs, AtMost, cost_of}

-- the choices pick a resolution that has this layout at this place, flat or not, and it is within w columns
abbrev pub WithinBy : ℕ → Doc → List Dir → ℕ → ℕ → Bool → Laid → Type 0
WithinBy w d choices column indentation flat whole =
    LaidOutBy d choices column indentation flat whole × Within column whole.pieces w

-- some resolution has a layout within w columns at this place, flat or not
abbrev pub HasWithin : ℕ → Doc → ℕ → ℕ → Bool → Type 0
HasWithin w d column indentation flat =
    (choices : List Dir) × (whole : Laid) × WithinBy w d choices column indentation flat whole

-- the first pieces cost at most what the others cost
abbrev pub CostsAtMost : {C : Type 0} → Costs C → List Piece → List Piece → Type 0
CostsAtMost {C} costs pieces others =
    (a b : C) → cost_of costs pieces ≡ Some a → cost_of costs others ≡ Some b → AtMost costs a b

-- the choices pick a resolution within w columns, and no resolution within them costs less
abbrev pub IsLeast : {C : Type 0} → Costs C → ℕ → Doc → ℕ → ℕ → Bool → List Dir → Type 0
IsLeast costs w d column indentation flat choices =
    (whole : Laid) × WithinBy w d choices column indentation flat whole
    × ((others : List Dir) (other : Laid) →
    WithinBy w d others column indentation flat other → CostsAtMost costs whole.pieces other.pieces)

-- the choices pick a resolution with a layout; where some resolution is within w columns it is one of the least, and
-- otherwise it goes part by part
abbrev pub LeastOr : {C : Type 0} → Costs C → ℕ → Doc → ℕ → ℕ → Bool → List Dir → Type 0 → Type 0
LeastOr costs w d column indentation flat choices by_parts =
    ((whole : Laid) × LaidOutBy d choices column indentation flat whole)
    × (IsLeast costs w d column indentation flat choices ⊎ ((HasWithin w d column indentation flat → ⊥) × by_parts))

-- the choices are best for the document at this place, flat or not, where layouts within w columns are sought
unfoldable pub Best : {C : Type 0} → Costs C → ℕ → Doc → ℕ → ℕ → Bool → List Dir → Type 0
Best costs w (Text s len) column indentation flat choices =
    LeastOr costs w (Text s len) column indentation flat choices (choices ≡ [])
Best costs w Newline column indentation flat choices =
    LeastOr costs w Newline column indentation flat choices (choices ≡ [])
Best costs w Hard column indentation flat choices = LeastOr costs w Hard column indentation flat choices (choices ≡ [])
Best costs w (Concat a b) column indentation flat choices =
    LeastOr costs w (Concat a b) column indentation flat choices
    ((x : List Dir) × (y : List Dir) × (first : Laid) × (choices ≡ x ++ y) × Best costs w a column indentation flat x
    × LaidOutBy a x column indentation flat first × Best costs w b first.last indentation flat y)
Best costs w (Nest n a) column indentation flat choices =
    LeastOr costs w (Nest n a) column indentation flat choices (Best costs w a column (indentation + n) flat choices)
Best costs w (Align a) column indentation flat choices =
    LeastOr costs w (Align a) column indentation flat choices (Best costs w a column column flat choices)
Best costs w (Reset a) column indentation flat choices =
    LeastOr costs w (Reset a) column indentation flat choices (Best costs w a column 0 flat choices)
Best costs w (Flatten a) column indentation flat choices =
    LeastOr costs w (Flatten a) column indentation flat choices (Best costs w a column indentation true choices)
Best costs w (Choice a b) column indentation flat choices =
    LeastOr costs w (Choice a b) column indentation flat choices
    ((rest : List Dir)
    × ((HasLayout a flat × (choices ≡ Left ∷ rest) × Best costs w a column indentation flat rest)
    ⊎ ((HasLayout a flat → ⊥) × (choices ≡ Right ∷ rest) × Best costs w b column indentation flat rest)))
Best costs w (Only dir a) column indentation flat choices =
    LeastOr costs w (Only dir a) column indentation flat choices
    ((rest : List Dir) × (choices ≡ dir ∷ rest) × Best costs w a column indentation flat rest)
Best costs w (Charge k a) column indentation flat choices =
    LeastOr costs w (Charge k a) column indentation flat choices (Best costs w a column indentation flat choices)
