-- The entries are so many comments and the rest.
use Rattle.std.proofs.Common.{◌≡◌, ◌≤◌, length, take, drop}
use Rattle.std.specs.List.{AllByRecursion}
use Rattle.std.specs.Option.{option_map}
use Rattle.rf_base_tree.specs.Slots.{AreLeads}
use Rattle.rf_tree.specs.Kept.{HasNode}
use Rattle.rf_tree.specs.Sorts.{sort_told, entries_at, first_sort}
use Rattle.rf_tree.proofs.cursors.split_leads.Given as goal

abbrev pub invariant-loop-behind : goal.invariant-loop-behind
invariant-loop-behind l = record {
  within : l.count ≤ length l.entries;
  parts : l.rest ≡ drop l.count l.entries;
  comments : AreLeads (entries_at l.tree (take l.count l.entries));
  there : AllByRecursion (HasNode l.tree) l.rest;
  sort : option_map sort_told l.first ≡ first_sort (entries_at l.tree l.rest);
}

abbrev pub decreases-loop-behind : goal.decreases-loop-behind
decreases-loop-behind l = length l.rest
