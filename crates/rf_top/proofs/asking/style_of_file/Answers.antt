-- What a style file says is a style.
use Rattle.rf_style.proofs.Said.{said_is_style}
use Rattle.rf_top.proofs.asking.style_of_file.Goals as goal

pub returns-clause-ranges : goal.returns-clause-ranges
returns-clause-ranges g c = said_is_style _ _ c.in_ok-read_style.ensures
