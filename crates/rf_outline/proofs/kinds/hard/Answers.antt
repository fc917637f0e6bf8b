-- A hard newline is a break, and where flat it has no layout.
use Rattle.std.proofs.Common.{refl}
use Rattle.rf_base_document.specs.Simple.{simple}
use Rattle.rf_base_cut.specs.Documents.{begins_in}
use Rattle.rf_base_cut.specs.DocumentLines.{never_free_in}
use Rattle.rf_outline.proofs.kinds.hard.Goals as goal

pub returns : goal.returns
unfolding never_free_in begins_in simple
returns c = λ ways. ((refl, λ t. refl), ((refl, refl), λ t. refl))
