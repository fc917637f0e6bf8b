-- The entries of a map of rules, and rows of rules, as the tables that they are.
use Rattle.std.specs.Prelude.{ℕ, List, [], ◌∷◌, map, String, string_bytes}
use Rattle.std.specs.Borrow.{Bor}
use Rattle.std.specs.Str.{chars}
use Rattle.std.specs.declared.alloc.Global.{Global}
use Rattle.rf_base_style.specs.declared.rules.Rule.{Rule}
use Rattle.rf_base_style.specs.Table.{Table, with_rule}

-- the names' characters with their rules
unfoldable pub table_of : List (String Global × Rule) → Table
table_of entries = map (λ entry. (chars (string_bytes entry.0), entry.1)) entries

-- the names' characters with their rules, where the names are lent
unfoldable pub rows_of : List (Bor (List ℕ) × Rule) → Table
rows_of rows = map (λ row. (chars row.0.now, row.1)) rows

-- the table, with each row's rule put in order
unfoldable pub with_rows : Table → Table → Table
with_rows table [] = table
with_rows table (row ∷ rows) = with_rows (with_rule table row.0 row.1) rows
