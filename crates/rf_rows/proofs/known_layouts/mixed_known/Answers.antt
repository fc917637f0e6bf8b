-- Both lines hold.
use Rattle.rf_rows.proofs.known_layouts.mixed_known.Goals as goal

pub returns-clause-flat : goal.returns-clause-flat
returns-clause-flat c = λ ways f qs order. c.flat_line.ensures ways f qs c.args.second order
