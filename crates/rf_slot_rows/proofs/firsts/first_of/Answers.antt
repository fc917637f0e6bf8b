-- The node is there.
use Rattle.rf_slot_rows.proofs.FirstItems.{entry_there, no_entry, an_entry}
use Rattle.rf_slot_rows.proofs.firsts.first_of.Goals as goal

pub first_item-requires : goal.first_item-requires
first_item-requires c =
    entry_there c.requires.0 c.args.tree.now.nodes c.args.at c.in-Some.at c.requires.2 c.in-Some.is c.requires.4

pub returns-in-None : goal.returns-in-None
returns-in-None c style ts e stands = no_entry style ts c.args.tree.now.nodes c.args.at e c.args.other c.in-None.is stands

pub returns-in-Some : goal.returns-in-Some
returns-in-Some c style ts e stands =
    an_entry style ts c.args.tree.now.nodes c.args.at c.in-Some.at e c.args.other c.first_item.result c.in-Some.is (c.first_item.ensures style ts) stands
