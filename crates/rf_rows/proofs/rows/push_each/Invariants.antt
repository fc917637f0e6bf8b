-- Those so far stand behind the others.
use Rattle.std.proofs.Common.{◌≡◌, ◌++◌, take}
use Rattle.rf_rows.proofs.rows.push_each.Given as goal

abbrev pub invariant-loop-turn : goal.invariant-loop-turn
invariant-loop-turn l = record {
  so_far : l.turns.items ≡ l.fn.turns.items ++ take l.turn-index l.more;
}
