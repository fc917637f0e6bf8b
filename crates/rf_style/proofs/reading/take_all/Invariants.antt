-- The style so far, and the keys that are left, come to what all the keys come to.
use Rattle.std.proofs.Common.{◌≡◌}
use Rattle.toml.specs.View.{members_view}
use Rattle.rf_style.specs.StyleOf.{with_keys}
use Rattle.rf_style.proofs.reading.take_all.Given as goal

abbrev pub invariant-loop-key : goal.invariant-loop-key
invariant-loop-key l =
    with_keys l.fn.second l.style (members_view l.key-iterator) ≡ with_keys l.fn.second l.initial.style (members_view l.fn.keys.entries)
