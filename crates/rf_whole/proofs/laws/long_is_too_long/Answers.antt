-- What is too long form by form is too long as a document.
use Rattle.rf_whole.proofs.AsDocument.{long_is_too_long}
use Rattle.rf_whole.proofs.laws.long_is_too_long.Goals as goal

pub returns : goal.returns
returns g c = long_is_too_long
