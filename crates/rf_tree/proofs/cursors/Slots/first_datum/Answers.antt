-- A datum that begins the entries begins the first slot.
use Rattle.std.proofs.Common.{◌≡◌, Some, List, ◌∷◌, sym, ap, ◌∙◌, subst, rules}
use Rattle.std.specs.Option.{option_map}
use Rattle.rf_tree.specs.Sorts.{sort_told, entries_at, first_sort}
use Rattle.rf_tree.specs.Ahead.{node_slots, BeginWithDatum}
use Rattle.rf_tree.specs.declared.nodes.At.{At}
use Rattle.rf_tree.specs.declared.sorts.Sort.TheVariants as sort
use Rattle.rf_tree.proofs.NextSlots.{datum_first, datum_ahead}
use Rattle.rf_tree.proofs.cursors.Slots.first_datum.Goals as goal

pub returns-in-Some-Datum-Some : goal.returns-in-Some-Datum-Some
returns-in-Some-Datum-Some c =
    let self = c.args.self.now in
    let tree = self.tree.now in
    let at = c.in-Some-Datum-Some.at.now in
    let behind = c.in-Some-Datum-Some.field-0-1-1.now in
    let entries : self.entries.now ≡ at ∷ behind = search rules in
    let is : self.sort ≡ Some sort.Datum = search rules in
    let told : option_map sort_told self.sort ≡ first_sort (entries_at tree (at ∷ behind)) =
    c.requires.sort ∙ ap (λ (xs : List At). first_sort (entries_at tree xs)) entries in
    let datum = datum_first tree at behind (option_map sort_told self.sort) (ap (option_map sort_told) is) told in
    subst (λ (xs : List At). BeginWithDatum (node_slots tree self.in_list xs) (Some at)) (sym entries) (datum_ahead tree self.in_list at behind datum)
