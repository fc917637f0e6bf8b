-- Each slot has an entry.
use Rattle.rf_tree.proofs.NextSlots.{ahead_few}
use Rattle.rf_tree.proofs.cursors.Slots.most.Goals as goal

pub returns : goal.returns
returns c = ahead_few c.args.self.now.tree.now c.args.self.now.in_list c.args.self.now.entries.now
