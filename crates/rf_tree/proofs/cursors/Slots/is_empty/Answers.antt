-- Entries that are left are cut into some slots.
use Rattle.std.proofs.Common.{◌∙◌}
use Rattle.rf_tree.proofs.NextSlots.{ahead_empty}
use Rattle.rf_tree.proofs.cursors.Slots.is_empty.Goals as goal

pub returns : goal.returns
returns c = c.is_empty.ensures ∙ ahead_empty c.args.self.now.tree.now c.args.self.now.in_list c.args.self.now.entries.now
