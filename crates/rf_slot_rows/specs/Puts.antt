-- What is put on the stack.
use Rattle.std.specs.Prelude.{ℕ, ◌≡◌, Option, List}
use Rattle.rf_base_grammar.specs.Token.{Token}
use Rattle.rf_base_file.specs.Rows.{Step}
use Rattle.rf_ways.specs.Steps.{last_behind, docs_behind}
use Rattle.rf_rows.specs.declared.rows.Rows.{Rows}
use Rattle.rf_rows.specs.Puts.{Puts}

-- steps were put on the stack behind this item, if there is one, and this is the last item then
pub record StepsPut (ts : List Token) (old new : Rows) (last end : Option ℕ) (steps : List Step) : Type 0 where
  pub docs : Puts old new (docs_behind ts last steps)
  pub last_is : end ≡ last_behind last steps
