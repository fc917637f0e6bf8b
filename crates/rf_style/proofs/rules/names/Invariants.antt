-- The rules so far, and the names that are left, come to what all the names come to.
use Rattle.std.proofs.Common.{◌≡◌}
use Rattle.toml.specs.View.{members_view}
use Rattle.rf_style.specs.Rules.{with_names}
use Rattle.rf_style.proofs.rules.names.Given as goal

abbrev pub invariant-loop-name : goal.invariant-loop-name
invariant-loop-name l =
    with_names l.fn.second l.forms (members_view l.name-iterator) ≡ with_names l.fn.second l.initial.forms (members_view l.fn.names.entries)
