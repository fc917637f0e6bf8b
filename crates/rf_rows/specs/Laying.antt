-- Documents laid out on a paper, while others wait behind them.
use Rattle.std.specs.Prelude.{ℕ, ◌+◌, ◌<◌, List, [], ◌∷◌, ◌++◌}
use Rattle.rf_base_document.specs.declared.limits.TheConstants.{LAYOUT_LIMIT}
use Rattle.rf_base_document.specs.declared.directions.Dir.{Dir}
use Rattle.rf_base_document.specs.Document.{Doc}
use Rattle.rf_base_file.specs.Shapes.{charged}
use Rattle.rf_base_document.specs.Render.{Piece}
use Rattle.rf_walk.specs.declared.walking.Frame.{Frame}
use Rattle.rf_walk.specs.Walked.{Ending, CanGoOn, IsPastLimit}
use Rattle.rf_walk.specs.declared.faults.LayoutError.TheVariants.{TooLong}
use Rattle.rf_rows.specs.declared.halts.Halt.{Halt}
use Rattle.rf_rows.specs.declared.halts.Halt.TheVariants.{Refused, Unmade}
use Rattle.rf_rows.specs.declared.laying.Spot.{Spot}

-- a document that is still to be laid out at a spot
abbrev pub framed : Spot → Doc → Frame Doc
framed spot d = record { node = d; indentation = spot.indentation; flat = spot.flat }

-- documents that are, the first of them next
unfoldable pub frames_of : Spot → List Doc → List (Frame Doc)
frames_of spot [] = []
frames_of spot (d ∷ ds) = frames_of spot ds ++ framed spot d ∷ []

-- with the choices, a walk over documents can go on with these, the last one first, and has some ending
abbrev pub MayGoOn : {P : Type 0} → (P → P → List Piece → ℕ → Type 0) → P → List (Frame Doc) → List Dir → Type 0
MayGoOn {P} holds paper frames choices =
    (blank : P) × (others : List (Frame Doc)) × (end : Ending)
    × CanGoOn (holds blank paper) (λ d. d) (others ++ frames) choices end

-- whatever ending it has, once these are laid out it has the same one with what waits behind them and the choices that
-- are left
abbrev pub AreLaid : {P : Type 0} → (P → P → List Piece → ℕ → Type 0) → P → P → List (Frame Doc) → List Dir → List Dir
    → Type 0
AreLaid {P} holds old new frames choices left =
    (blank : P) (others : List (Frame Doc)) (end : Ending) →
    CanGoOn (holds blank old) (λ d. d) (others ++ frames) choices end →
    CanGoOn (holds blank new) (λ d. d) others left end

-- whatever ending it has is too long
abbrev pub ArePast : {P : Type 0} → (P → P → List Piece → ℕ → Type 0) → P → List (Frame Doc) → List Dir → Type 0
ArePast {P} holds paper frames choices =
    (blank : P) (others : List (Frame Doc)) (end : Ending) →
    CanGoOn (holds blank paper) (λ d. d) (others ++ frames) choices end → IsPastLimit end

-- the same of one document at a spot
abbrev pub MayLay : {P : Type 0} → (P → P → List Piece → ℕ → Type 0) → P → Spot → Doc → List Dir → Type 0
MayLay holds paper spot d choices = MayGoOn holds paper (framed spot d ∷ []) choices

abbrev pub IsLaid : {P : Type 0} → (P → P → List Piece → ℕ → Type 0) → P → P → Spot → Doc → List Dir → List Dir → Type 0
IsLaid holds old new spot d choices left = AreLaid holds old new (framed spot d ∷ []) choices left

abbrev pub IsPast : {P : Type 0} → (P → P → List Piece → ℕ → Type 0) → P → Spot → Doc → List Dir → Type 0
IsPast holds paper spot d choices = ArePast holds paper (framed spot d ∷ []) choices

-- whatever ending a walk over a document with a charge has, once that is paid it has the same one with the document
abbrev pub IsPaid : {P : Type 0} → (P → P → List Piece → ℕ → Type 0) → P → P → ℕ → Type 0
IsPaid {P} holds old new charge =
    (spot : Spot) (d : Doc) (choices : List Dir) (blank : P) (others : List (Frame Doc)) (end : Ending) →
    CanGoOn (holds blank old) (λ x. x) (others ++ framed spot (charged charge d) ∷ []) choices end →
    CanGoOn (holds blank new) (λ x. x) (others ++ framed spot d ∷ []) choices end

-- the paper refuses what would be past its limits
abbrev pub too_long : Halt
too_long = Refused TooLong

-- what is picked of a list that isn't made isn't told
abbrev pub not_told : Halt
not_told = Unmade

-- so many choices are counted, and the pieces are the same
abbrev pub GainsChoices : {P : Type 0} → (P → P → List Piece → ℕ → Type 0) → P → P → ℕ → Type 0
GainsChoices {P} holds old new n =
    (blank : P) (pieces : List Piece) (weight : ℕ) → holds blank old pieces weight → holds blank new pieces (weight + n)

-- so many choices more would be past the limit
abbrev pub PassesByChoices : {P : Type 0} → (P → P → List Piece → ℕ → Type 0) → P → ℕ → Type 0
PassesByChoices {P} holds old n =
    (blank : P) (pieces : List Piece) (weight : ℕ) → holds blank old pieces weight → LAYOUT_LIMIT < weight + n
