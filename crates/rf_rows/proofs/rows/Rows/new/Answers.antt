-- No cell and no piece is there.
use Rattle.rf_rows.proofs.Stands.{no_rows}
use Rattle.rf_rows.proofs.Growth.{none_size}
use Rattle.rf_rows.proofs.rows.Rows.new.Goals as goal

pub invariant_of-result : goal.invariant_of-result
invariant_of-result c = record { stand = no_rows _ _ _ _ _ c.new.ensures.items c.new-2.ensures.items c.new-3.ensures.items }

pub returns-clause-size : goal.returns-clause-size
returns-clause-size c = none_size _ _ c.new-2.ensures.items c.new-3.ensures.items
