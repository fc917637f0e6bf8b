-- How many nodes a row of a cell takes, where its pieces are nodes.
use Rattle.std.specs.Prelude.{ℕ, ◌+◌, ◌-◌, Option, None, Some}
use Rattle.rf_rows.specs.declared.layouts.Row.{Row}
use Rattle.rf_rows.specs.declared.layouts.Row.TheVariants.{Dropped, Hanging, Hung, InLine, Lines, InColumn, Columns, Column}
use Rattle.rf_rows.specs.declared.layouts.Inner.{Inner}
use Rattle.rf_rows.specs.declared.layouts.Inner.TheVariants.{Aligned, Nested}
use Rattle.rf_rows.specs.declared.layouts.Marks.{Marks}

-- one for each of its pieces at most, and one for each row in it and for the row itself
abbrev pub row_size : Marks → ℕ → Row → ℕ
row_size m count Dropped = count + 1
row_size m count Hanging = count + 2
row_size m count Hung = (count - m.second) + 1
row_size m count InLine = count + 2
row_size m count Lines = (count - m.first) + 1
row_size m count InColumn = count + 3
row_size m count Columns = (count - m.first) + 2
row_size m count Column = (m.bodies - m.second) + 1

-- the same of a row that stands as one in another row, aligned or nested by one node more
abbrev pub inner_size : Marks → ℕ → Option Inner → ℕ
inner_size m count None = 0
inner_size m count (Some (Aligned row)) = row_size m count row + 1
inner_size m count (Some (Nested row)) = row_size m count row + 1
