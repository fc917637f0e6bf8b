-- So many slots were passed.
use Rattle.std.proofs.Common.{◌≡◌, drop}
use Rattle.rf_tree.specs.Ahead.{slots_ahead, IsCursor}
use Rattle.rf_lines.proofs.turns.fit.Given as goal

abbrev pub invariant-loop : goal.invariant-loop
invariant-loop l =
    record { cursor : IsCursor l.ahead; passed : slots_ahead l.ahead ≡ drop l.counter (slots_ahead l.fn.slots) }
