-- So many slots were read, and the others are left.
use Rattle.std.proofs.Common.{◌≡◌, ◌+◌, length}
use Rattle.rf_tree.specs.Stretches.{stretched, IsStretch}
use Rattle.rf_tree.proofs.stretches.Stretch.count.Given as goal

abbrev pub invariant-loop-count : goal.invariant-loop-count
invariant-loop-count l = record {
  cursor : IsStretch l.rest;
  all : l.count + length (stretched l.rest) ≡ length (stretched l.self);
}

abbrev pub decreases-loop-count : goal.decreases-loop-count
decreases-loop-count l = length (stretched l.rest)
