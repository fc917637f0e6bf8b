-- What is counted keeps the limits.
use Rattle.std.specs.Prelude.{ℕ, List}
use Rattle.rf_base_document.specs.Render.{Piece}
use Rattle.rf_base_cost.specs.Cost.{Costs}
use Rattle.rf_walk.specs.declared.extents.Extent.{Extent}
use Rattle.rf_walk.specs.Papers.{IsWithinLimits}
use Rattle.rf_walk.specs.Within.{covers_within}
use Rattle.rf_measure.specs.Tallies.{Counts}

pub counts_within : {C : Type 0} (costs : Costs C) (cost : C) (extent : Extent) (pieces : List Piece) (weight : ℕ) →
    Counts costs cost extent pieces weight → IsWithinLimits pieces weight
counts_within costs cost extent pieces weight counts = covers_within extent pieces weight counts.covers
