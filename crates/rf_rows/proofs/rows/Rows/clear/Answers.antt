-- No cell and no piece is left.
use Rattle.rf_rows.proofs.Stands.{no_rows}
use Rattle.rf_rows.proofs.Growth.{none_size}
use Rattle.rf_rows.proofs.rows.Rows.clear.Goals as goal

pub invariant_of-self : goal.invariant_of-self
invariant_of-self c = record { stand = no_rows _ _ _ _ _ c.clear.ensures.items c.clear-2.ensures.items c.clear-3.ensures.items }

pub returns-clause-size : goal.returns-clause-size
returns-clause-size c = none_size _ _ c.clear-2.ensures.items c.clear-3.ensures.items
