-- What an extent covers keeps the limits.
use Rattle.std.proofs.Common.{ℕ, List, arith}
use Rattle.rf_base_document.specs.Render.{Piece}
use Rattle.rf_walk.specs.declared.extents.Extent.{Extent}
use Rattle.rf_walk.specs.Papers.{IsWithinLimits}
use Rattle.rf_walk.specs.Extents.{Covers}

pub covers_within : (extent : Extent) (pieces : List Piece) (weight : ℕ) → Covers extent pieces weight →
    IsWithinLimits pieces weight
covers_within extent pieces weight covers =
    (omega (arith, covers.counted, covers.short), omega (arith, covers.weighed, covers.light))
