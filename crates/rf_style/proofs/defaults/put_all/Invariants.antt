-- The rules so far, and the rows that are left, come to all the rows.
use Rattle.std.proofs.Common.{◌≡◌, drop}
use Rattle.rf_style.specs.Entries.{rows_of, with_rows}
use Rattle.rf_style.proofs.defaults.put_all.Given as goal

abbrev pub invariant-loop-name : goal.invariant-loop-name
invariant-loop-name l = with_rows l.forms (rows_of (drop l.name-index l.rows)) ≡ with_rows l.initial.forms (rows_of l.rows)
