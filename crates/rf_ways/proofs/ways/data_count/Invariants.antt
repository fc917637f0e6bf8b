-- The data so far and those ahead are all.
use Rattle.std.proofs.Common.{◌≡◌, ◌≤◌, ◌+◌, length}
use Rattle.std.specs.Prelude.{is_some, count_by}
use Rattle.rf_tree.specs.Ahead.{slots_ahead, IsCursor}
use Rattle.rf_ways.proofs.ways.data_count.Given as goal

abbrev pub invariant-loop-has_datum : goal.invariant-loop-has_datum
invariant-loop-has_datum l = record {
  cursor : IsCursor l.ahead;
  so_far : l.count + count_by (λ s. is_some s.datum) (slots_ahead l.ahead) ≡ count_by (λ s. is_some s.datum) (slots_ahead l.fn.slots);
  within : l.count + length (slots_ahead l.ahead) ≤ l.most;
}

abbrev pub decreases-loop-has_datum : goal.decreases-loop-has_datum
decreases-loop-has_datum l = length (slots_ahead l.ahead)
