-- All rows together are the default table.
use Rattle.std.proofs.Common.{refl, ◌∙◌}
use Rattle.std.specs.Str.{chars}
use Rattle.rf_base_style.specs.Table.{with_rule}
use Rattle.rf_base_style.specs.Defaults.{all_have, default_table}
use Rattle.rf_style.specs.Entries.{rows_of, with_rows}
use Rattle.rf_style.proofs.defaults.default_forms.Goals as goal

pub returns : goal.returns
unfolding with_rows rows_of with_rule chars all_have default_table
returns c = c.in_ok-put_all.ensures ∙ rw c.new-forms.ensures refl
