-- What is counted of a layout.
use Rattle.std.specs.Prelude.{◌≡◌, ℕ, List}
use Rattle.rf_base_document.specs.Render.{Piece}
use Rattle.rf_base_cost.specs.Cost.{Costs, cost_after, PiecesAreCounted}
use Rattle.rf_walk.specs.declared.extents.Extent.{Extent}
use Rattle.rf_walk.specs.Extents.{Covers}

-- the cost is that of an empty text and then of these pieces, whose columns and charges are counted, and the extent
-- covers them and this weight
pub record Counts {C : Type 0} (costs : Costs C) (cost : C) (extent : Extent) (pieces : List Piece)
    (weight : ℕ) : Type 0 where
  pub cost_is : cost ≡ cost_after costs (costs.text 0 0) pieces
  pub counted : PiecesAreCounted pieces
  pub covers : Covers extent pieces weight
