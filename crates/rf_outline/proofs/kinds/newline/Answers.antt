-- A newline is a break, and where flat a text of one column.
use Rattle.std.proofs.Common.{refl}
use Rattle.rf_base_cut.specs.Documents.{flat_length_in, begins_in}
use Rattle.rf_base_cut.specs.DocumentLines.{never_free_in, OneLineIn}
use Rattle.rf_outline.proofs.kinds.newline.Goals as goal

pub returns : goal.returns
unfolding never_free_in OneLineIn flat_length_in begins_in
returns c = ((refl, λ t. refl), ((c.first.ensures.in_ways, (refl, refl, c.first.ensures.choices), refl), λ t. cc))
