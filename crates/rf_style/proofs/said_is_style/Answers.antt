-- Key by key.
use Rattle.rf_style.proofs.Said.{said_is_style}
use Rattle.rf_style.proofs.said_is_style.Goals as goal

pub returns : goal.returns
returns c = said_is_style
