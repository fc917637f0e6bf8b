-- The slots behind those that were read are left.
use Rattle.std.proofs.Common.{◌≡◌, drop}
use Rattle.rf_tree.specs.Stretches.{stretched, IsStretch}
use Rattle.rf_tree.proofs.stretches.behind.Given as goal

abbrev pub invariant-loop : goal.invariant-loop
invariant-loop l = record {
  cursor : IsStretch l.rest;
  slots : stretched l.rest ≡ drop l.counter (stretched l.slots);
}
