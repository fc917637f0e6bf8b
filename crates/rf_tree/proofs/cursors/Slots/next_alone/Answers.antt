-- A datum that begins the entries is the first slot, where no comment stands behind it on its line.
use Rattle.std.proofs.Common.{◌≡◌, false, Some, List, ◌∷◌, sym, ap, ◌∙◌, rules}
use Rattle.std.specs.Option.{option_map}
use Rattle.rf_tree.specs.Sorts.{sort_told, entries_at, first_passes, first_sort, is_trailing}
use Rattle.rf_tree.specs.Ahead.{node_slots}
use Rattle.rf_tree.specs.declared.nodes.At.{At}
use Rattle.rf_tree.specs.declared.sorts.Sort.TheVariants as sort
use Rattle.rf_tree.proofs.NextSlots.{datum_first, alone_ahead, passes_by}
use Rattle.rf_tree.proofs.cursors.Slots.next_alone.Goals as goal

pub returns-else-is_trailing-clause-next : goal.returns-else-is_trailing-clause-next
returns-else-is_trailing-clause-next c =
    let self = c.args.self.now in
    let tree = self.tree.now in
    let at = c.in-Some-Datum-Some.at.now in
    let behind = c.in-Some-Datum-Some.behind.now in
    let entries : self.entries.now ≡ at ∷ behind = search rules in
    let is : self.sort ≡ Some sort.Datum = search rules in
    let told : option_map sort_told self.sort ≡ first_sort (entries_at tree (at ∷ behind)) =
    c.requires.sort ∙ ap (λ (xs : List At). first_sort (entries_at tree xs)) entries in
    let datum = datum_first tree at behind (option_map sort_told self.sort) (ap (option_map sort_told) is) told in
    let passes = passes_by is_trailing (entries_at tree behind) _ c.is_trailing.result c.first_sort-sort.ensures c.is_trailing.ensures in
    let plain : first_passes is_trailing (entries_at tree behind) ≡ false = sym passes ∙ c.if-is_trailing.false in
    ap (node_slots tree self.in_list) entries ∙ alone_ahead tree self.in_list at behind datum plain
