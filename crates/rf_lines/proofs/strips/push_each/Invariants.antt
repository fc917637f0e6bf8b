-- So many choices were added.
use Rattle.std.proofs.Common.{◌≡◌, ◌++◌, take}
use Rattle.rf_lines.proofs.strips.push_each.Given as goal

abbrev pub invariant-loop-dir : goal.invariant-loop-dir
invariant-loop-dir l = record { added : l.choices.items ≡ l.fn.choices.items ++ take l.dir-index l.dirs }
