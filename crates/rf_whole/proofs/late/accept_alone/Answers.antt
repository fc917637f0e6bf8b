-- The tree is there, others may stand before its text, and the text ends in an item.
use Rattle.std.proofs.Common.{refl}
use Rattle.rf_style.specs.StyleOf.{seen}
use Rattle.rf_whole.proofs.Accepted.{accepted_alone}
use Rattle.rf_whole.proofs.late.accept_alone.Goals as goal

pub returns-clause-accepted : goal.returns-clause-accepted
returns-clause-accepted c u =
    accepted_alone (seen c.args.style.now) c.args.text.now c.in_ok-tree.tree c.args.first c.in_ok-tree.ensures.tree
    (c.if-not-stands_with_others.ensures refl) (c.if-not-ends_in_item.ensures refl)
