-- The first slot begins with the first entry.
use Rattle.std.proofs.Common.{◌≡◌, None, Some, slice_get, sym, ap, ◌∙◌}
use Rattle.std.specs.Option.{option_copied}
use Rattle.rf_tree.proofs.NextSlots.{some_ahead, none_ahead, none_first}
use Rattle.rf_tree.proofs.cursors.Slots.first.Goals as goal

pub returns-in-Some : goal.returns-in-Some
returns-in-Some c =
    let self = c.args.self.now in
    let first : slice_get self.entries.now 0 ≡ Some c.in-Some.at.now = sym c.first.ensures.value ∙ ap option_copied c.in-Some.is in
    some_ahead self.tree.now self.in_list self.entries.now c.in-Some.at.now first

pub returns-in-None : goal.returns-in-None
returns-in-None c =
    let self = c.args.self.now in
    let first : slice_get self.entries.now 0 ≡ None = sym c.first.ensures.value ∙ ap option_copied c.in-None.is in
    none_ahead self.tree.now self.in_list self.entries.now (none_first self.entries.now first)
