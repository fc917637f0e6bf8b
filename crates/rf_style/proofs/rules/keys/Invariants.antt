-- What is known so far, and the keys that are left, come to what all the keys come to.
use Rattle.std.proofs.Common.{◌≡◌}
use Rattle.toml.specs.View.{members_view}
use Rattle.rf_style.specs.Rules.{with_keys, no_draft}
use Rattle.rf_style.proofs.rules.keys.Given as goal

abbrev pub invariant-loop-key : goal.invariant-loop-key
invariant-loop-key l =
    with_keys l.fn.second l.draft (members_view l.key-iterator) ≡ with_keys l.fn.second no_draft (members_view l.fn.keys.entries)
