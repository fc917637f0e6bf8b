-- A text is one of its length, by no choice.
use Rattle.std.proofs.Common.{refl}
use Rattle.rf_base_cut.specs.Documents.{flat_length_in}
use Rattle.rf_base_cut.specs.DocumentLines.{OneLineIn}
use Rattle.rf_outline.proofs.kinds.text.Goals as goal

pub returns : goal.returns
unfolding OneLineIn flat_length_in
returns c = λ s. (
  ((c.first.ensures.in_ways, (refl, c.first.ensures.choices), refl), λ t. cc),
  ((c.first.ensures.in_ways, (refl, c.first.ensures.choices), refl), λ t. cc),
)
