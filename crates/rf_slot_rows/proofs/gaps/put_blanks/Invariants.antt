-- The blank lines so far.
use Rattle.std.proofs.Common.{◌*◌, replicate}
use Rattle.rf_base_file.specs.Rows.{bare_break}
use Rattle.rf_rows.specs.Sizes.{Grows}
use Rattle.rf_rows.specs.Puts.{Puts}
use Rattle.rf_slot_rows.proofs.gaps.put_blanks.Given as goal

abbrev pub invariant-loop-i : goal.invariant-loop-i
invariant-loop-i l = record { put : Puts l.fn.rows l.rows (replicate l._i bare_break); grown : Grows (4 * l._i) l.fn.rows l.rows }
