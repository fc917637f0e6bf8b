-- What stands on a paper, what a piece adds to it, and when that would be too much.
use Rattle.std.specs.Prelude.{◌≡◌, ℕ, ◌+◌, ◌<◌, ◌≤◌, ◌⊎◌, List, [], ◌∷◌, ◌++◌, length}
use Rattle.rf_base_document.specs.declared.limits.TheConstants.{LAYOUT_LIMIT}
use Rattle.rf_base_document.specs.Render.{Piece, layout, column_after, WordsRun}
use Rattle.rf_base_cut.specs.DocumentLines.{EachIsWord}

-- neither the characters of the pieces nor the weight is past the limit
abbrev pub IsWithinLimits : List Piece → ℕ → Type 0
IsWithinLimits pieces weight = (length (layout pieces) ≤ LAYOUT_LIMIT) × (weight ≤ LAYOUT_LIMIT)

-- the characters of the pieces or the weight is past the limit
abbrev pub IsPastLimits : List Piece → ℕ → Type 0
IsPastLimits pieces weight = (LAYOUT_LIMIT < length (layout pieces)) ⊎ (LAYOUT_LIMIT < weight)

-- the pieces, and behind them one that may begin where they end
abbrev pub with_piece : List Piece → (ℕ → Piece) → List Piece
with_piece pieces piece = pieces ++ piece (column_after 0 pieces) ∷ []

-- pieces of some weight were put on the paper, on some blank one
abbrev pub HoldsSome : {P : Type 0} → (P → P → List Piece → ℕ → Type 0) → P → Type 0
HoldsSome {P} holds paper = (blank : P) × (pieces : List Piece) × (weight : ℕ) × holds blank paper pieces weight

-- whatever pieces were put on the paper end at this column
abbrev pub EndsAt : {P : Type 0} → (P → P → List Piece → ℕ → Type 0) → P → ℕ → Type 0
EndsAt {P} holds paper column =
    (blank : P) (pieces : List Piece) (weight : ℕ) → holds blank paper pieces weight → column ≡ column_after 0 pieces

-- the piece was put behind whatever pieces were put on the paper, for so much more weight
abbrev pub Gains : {P : Type 0} → (P → P → List Piece → ℕ → Type 0) → P → P → (ℕ → Piece) → ℕ → Type 0
Gains {P} holds old new piece by =
    (blank : P) (pieces : List Piece) (weight : ℕ) → holds blank old pieces weight →
    holds blank new (with_piece pieces piece) (weight + by)

-- the piece behind whatever pieces were put on the paper would be past the limit
abbrev pub Passes : {P : Type 0} → (P → P → List Piece → ℕ → Type 0) → P → (ℕ → Piece) → ℕ → Type 0
Passes {P} holds old piece by =
    (blank : P) (pieces : List Piece) (weight : ℕ) → holds blank old pieces weight →
    IsPastLimits (with_piece pieces piece) (weight + by)

-- the pieces are words alone, each of which begins where the one before it ends, the first at this column: they have
-- these characters, take up len columns together and are so many
pub record IsLineOf (line : List Piece) (column : ℕ) (s : List ℕ) (len words : ℕ) : Type 0 where
  pub alone : EachIsWord line
  pub runs : WordsRun column line
  pub text_is : layout line ≡ s
  pub ends : column_after column line ≡ column + len
  pub count_is : length line ≡ words

-- whatever line it is that s is was put behind whatever pieces were put on the paper, for the weight of its words
abbrev pub GainsLine : {P : Type 0} → (P → P → List Piece → ℕ → Type 0) → P → P → List ℕ → ℕ → ℕ → Type 0
GainsLine {P} holds old new s len words =
    (blank : P) (pieces : List Piece) (weight : ℕ) → holds blank old pieces weight →
    (line : List Piece) → IsLineOf line (column_after 0 pieces) s len words →
    holds blank new (pieces ++ line) (weight + words)

-- whatever line it is that s is, behind whatever pieces were put on the paper it would be past the limit
abbrev pub PassesLine : {P : Type 0} → (P → P → List Piece → ℕ → Type 0) → P → List ℕ → ℕ → ℕ → Type 0
PassesLine {P} holds old s len words =
    (blank : P) (pieces : List Piece) (weight : ℕ) → holds blank old pieces weight →
    (line : List Piece) → IsLineOf line (column_after 0 pieces) s len words →
    IsPastLimits (pieces ++ line) (weight + words)

-- behind whatever pieces were put on the paper, neither these characters nor the weight of so many words is too much
abbrev pub FitsLine : {P : Type 0} → (P → P → List Piece → ℕ → Type 0) → P → List ℕ → ℕ → Type 0
FitsLine {P} holds old s words =
    (blank : P) (pieces : List Piece) (weight : ℕ) → holds blank old pieces weight →
    (length (layout pieces) + length s ≤ LAYOUT_LIMIT) × (weight + words ≤ LAYOUT_LIMIT)

-- a choice is counted, and the pieces are the same
abbrev pub GainsChoice : {P : Type 0} → (P → P → List Piece → ℕ → Type 0) → P → P → Type 0
GainsChoice {P} holds old new =
    (blank : P) (pieces : List Piece) (weight : ℕ) → holds blank old pieces weight → holds blank new pieces (weight + 1)

-- one choice more would be past the limit
abbrev pub PassesByChoice : {P : Type 0} → (P → P → List Piece → ℕ → Type 0) → P → Type 0
PassesByChoice {P} holds old =
    (blank : P) (pieces : List Piece) (weight : ℕ) → holds blank old pieces weight → LAYOUT_LIMIT < weight + 1
