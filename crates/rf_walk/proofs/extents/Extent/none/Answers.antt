-- An extent of no character.
use Rattle.std.proofs.Common.{refl}
use Rattle.rf_walk.proofs.Covered.{none_covered}
use Rattle.rf_walk.proofs.extents.Extent.none.Goals as goal

pub returns : goal.returns
returns c = none_covered _ refl refl refl
