-- The layout form by form is that of the document.
use Rattle.rf_whole.proofs.AsDocument.{whole_is_formatted}
use Rattle.rf_whole.proofs.laws.whole_is_formatted.Goals as goal

pub returns : goal.returns
returns g c = whole_is_formatted
