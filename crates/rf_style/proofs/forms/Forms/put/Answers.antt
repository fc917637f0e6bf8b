-- The map's entries after the rule is put.
use Rattle.std.proofs.Common.{ap, ◌∙◌}
use Rattle.rf_style.specs.Entries.{table_of}
use Rattle.rf_style.proofs.Tables.{table_of-insert}
use Rattle.rf_style.proofs.forms.Forms.put.Goals as goal

pub returns-clause-put : goal.returns-clause-put
returns-clause-put c = rw (← c.self.view_is) (ap table_of c.in_ok-insert.ensures.entries ∙ table_of-insert _ _ _)
