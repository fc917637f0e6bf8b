-- A layout as it is written and counted at once.
use Rattle.std.specs.Prelude.{◌≡◌, ◌≤◌, ◌↔◌, ℕ, List}
use Rattle.rf_base_document.specs.Render.{Piece, layout, EachEndsWithin}
use Rattle.rf_base_cost.specs.Cost.{Costs}
use Rattle.rf_walk.specs.declared.extents.Extent.{Extent}
use Rattle.rf_walk.specs.Papers.{IsWithinLimits}
use Rattle.rf_measure.specs.Tallies.{Counts}
use Rattle.rf_measure.specs.Within.{counts_within}

-- no piece ends past this column, and it is the least such column: each of the pieces ends within just those widths
-- that aren't less than it
unfoldable pub IsWidest : ℕ → List Piece → Type 0
IsWidest widest pieces = (w : ℕ) → (widest ≤ w) ↔ EachEndsWithin w pieces

-- the text and the greatest column are those of these pieces, and the cost and the extent are theirs and this weight's
pub record Keeps {C : Type 0} (costs : Costs C) (text : List ℕ) (cost : C) (extent : Extent) (widest : ℕ)
    (pieces : List Piece) (weight : ℕ) : Type 0 where
  pub text_is : text ≡ layout pieces
  pub counts : Counts costs cost extent pieces weight
  pub widest_is : IsWidest widest pieces

-- what is kept keeps the limits
pub keeps_within : {C : Type 0} (costs : Costs C) (text : List ℕ) (cost : C) (extent : Extent) (widest : ℕ)
    (pieces : List Piece) (weight : ℕ) →
    Keeps costs text cost extent widest pieces weight → IsWithinLimits pieces weight
keeps_within costs text cost extent widest pieces weight keeps =
    counts_within costs cost extent pieces weight keeps.counts
