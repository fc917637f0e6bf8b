-- All texts cost nothing.
use Rattle.rf_cost.proofs.Freed.{lines_free}
use Rattle.rf_cost.proofs.lines.LinesFactory.free_up_to.Goals as goal

pub returns-clause-free : goal.returns-clause-free
returns-clause-free c = lines_free c.args.limit
