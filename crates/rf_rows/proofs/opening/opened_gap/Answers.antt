-- Each fill is the document of its kind.
use Rattle.std.proofs.Common.{ap}
use Rattle.std.specs.Str.{chars}
use Rattle.rf_rows.specs.Layouts.{fill_doc}
use Rattle.rf_rows.proofs.opening.opened_gap.Goals as goal

pub returns-in-Space : goal.returns-in-Space
unfolding chars
returns-in-Space c = λ f. ap fill_doc c.in-Space.is
