-- Which resolution of a core is chosen: that of the least cost within the width, and where none is within, part by
-- part.
use Rattle.std.specs.Prelude.{ℕ, ◌+◌, List, [], ◌∷◌, ◌++◌}
use Rattle.rf_base_document.specs.declared.directions.Dir.{Dir}
use Rattle.rf_base_document.specs.declared.directions.Dir.TheVariants.{Left}
use Rattle.rf_base_document.specs.Document.{Doc, Text, Newline, Hard, Concat, Nest, Align, Reset, Flatten, Choice, Only, Charge}
use Rattle.rf_base_cost.specs.declared.measures.Measure.{Measure}
use Rattle.rf_base_cost.specs.Cost.{Costs}
use Rattle.rf_base_optimum.specs.Plain.{plain}

-- what is chosen of a document at a place: the choices, and the column at which the resolution that they pick ends
pub record Chosen : Type 0 where
  pub choices : List Dir
  pub last : ℕ

-- these choices, whose resolution ends at this column
abbrev pub chosen : List Dir → ℕ → Chosen
chosen choices last = record { choices = choices; last = last }

-- the first measure of a frontier, which costs least; where there is none, what goes part by part
abbrev pub first_of : {C : Type 0} → List (Measure C (List Dir)) → Chosen → Chosen
first_of [] by_parts = by_parts
first_of (m ∷ rest) by_parts = chosen m.how m.last

-- the first and then the second, which begins where the first ends
abbrev pub chosen_both : Chosen → (ℕ → Chosen) → Chosen
chosen_both first second = let rest = second first.last in chosen (first.choices ++ rest.choices) rest.last

-- what is chosen of a side, behind the direction to it
abbrev pub chosen_side : Dir → Chosen → Chosen
chosen_side dir side = chosen (dir ∷ side.choices) side.last

-- what is chosen of a core at this column and indentation, where layouts within w columns are sought. Both sides of a
-- choice in a core have a layout, so part by part it is the first
unfoldable pub choose : {C : Type 0} → Costs C → ℕ → Doc → ℕ → ℕ → Chosen
choose costs w (Text s len) column indentation = chosen [] (column + len)
choose costs w Newline column indentation = chosen [] indentation
choose costs w Hard column indentation = chosen [] indentation
choose costs w (Concat a b) column indentation =
    first_of (plain costs w (Concat a b) column indentation)
    (chosen_both (choose costs w a column indentation) (λ last. choose costs w b last indentation))
choose costs w (Nest n a) column indentation = choose costs w a column (indentation + n)
choose costs w (Align a) column indentation = choose costs w a column column
choose costs w (Reset a) column indentation = choose costs w a column 0
choose costs w (Flatten a) column indentation = choose costs w a column indentation
choose costs w (Choice a b) column indentation =
    first_of (plain costs w (Choice a b) column indentation) (chosen_side Left (choose costs w a column indentation))
choose costs w (Only dir a) column indentation = chosen_side dir (choose costs w a column indentation)
choose costs w (Charge k a) column indentation =
    first_of (plain costs w (Charge k a) column indentation) (choose costs w a column indentation)
