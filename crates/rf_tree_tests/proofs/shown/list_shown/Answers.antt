-- The node is a list.
use Rattle.rf_tree.proofs.ToldNodes.{told_some}
use Rattle.rf_tree_tests.proofs.shown.list_shown.Goals as goal

pub slots-requires-clause-list : goal.slots-requires-clause-list
slots-requires-clause-list c =
    let found = c.in-Some-List in (
      found.field-0-0,
      found.field-0-1.now,
      found.field-0-2,
      told_some c.args.tree.now.nodes c.args.at.0 c.get.ensures found.is found.field-0-is,
    )
