-- What the map finds is the table's rule.
use Rattle.std.proofs.Common.{sym, ◌∙◌}
use Rattle.rf_style.proofs.Tables.{table_of-lookup, head_rule-some, head_rule-none}
use Rattle.rf_style.proofs.forms.Forms.head_rule.Goals as goal

pub returns-in-Some : goal.returns-in-Some
returns-in-Some c =
    head_rule-some _ _ _ (rw (← c.self.view_is) (sym (table_of-lookup _ _ c.utf8.name) ∙ sym c.in-Some.ensures.value))

pub returns-in-None : goal.returns-in-None
returns-in-None c =
    head_rule-none _ _ (rw (← c.self.view_is) (sym (table_of-lookup _ _ c.utf8.name) ∙ sym c.in-None.ensures.value))
