-- What a tally says of a resolution that was laid out on it.
use Rattle.std.proofs.Common.{◌≡◌, ℕ, false, List, ◌∙◌, arith}
use Rattle.rf_base_document.specs.declared.directions.Dir.{Dir}
use Rattle.rf_base_document.specs.Document.{Doc}
use Rattle.rf_base_document.specs.Render.{Piece, column_after}
use Rattle.rf_base_document.proofs.Running.{layout_runs, layout_pieces}
use Rattle.rf_base_cost.specs.Cost.{Costs, Lawful}
use Rattle.rf_walk.specs.declared.extents.Extent.{Extent}
use Rattle.rf_walk.specs.Within.{covers_within}
use Rattle.rf_walk.specs.LaidOut.{IsLaidOn}
use Rattle.rf_measure.specs.Tallies.{Counts}
use Rattle.rf_measure.specs.Measured.{IsMeasured}
use Rattle.rf_measure.proofs.Counting.{count_is_cost}

pub measured : {C : Type 0} (costs : Costs C) (laws : Lawful costs) (e : Doc) (cs : List Dir) (cost : C) (extent : Extent) (last : ℕ) →
    ((pieces : List Piece) (weight : ℕ) → Counts costs cost extent pieces weight → last ≡ column_after 0 pieces) →
    IsLaidOn (Counts costs cost extent) e cs → IsMeasured costs e cs cost last
measured costs laws e cs cost extent last at laid =
    let counts = laid.2 in
    let some = layout_pieces e 0 0 false laid.0 laid.1 in
    let short = covers_within extent _ _ counts.covers in (
      laid.0,
      laid.1,
      count_is_cost costs laws cost extent laid.0.pieces _ (omega (arith, some.0, some.1)) counts,
      at laid.0.pieces _ counts ∙ (layout_runs e 0 0 false laid.0 laid.1).1,
      short.0,
      short.1,
    )
