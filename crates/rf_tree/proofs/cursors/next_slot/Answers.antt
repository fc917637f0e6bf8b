-- The pieces are those of the first slot.
use Rattle.std.proofs.Common.{◌≡◌, List, ◌∷◌, sym, subst, rules}
use Rattle.rf_tree.specs.Sorts.{entries_at, ref_at, IsNext, is_trailing}
use Rattle.rf_tree.specs.declared.nodes.At.{At}
use Rattle.rf_tree.proofs.NextSlots.{next_is, rest_there, passes_by}
use Rattle.rf_tree.proofs.cursors.next_slot.Goals as goal

pub begins_with_key-is_key-requires-clause-there : goal.begins_with_key-is_key-requires-clause-there
begins_with_key-is_key-requires-clause-there c =
    rest_there c.args.tree.now c.args.entries.now c.split_leads-sort.result.0.now c.split_leads-sort.result.1.now c.split_leads-sort.ensures.leads c.requires.there

pub split_if-key-requires-clause-there : goal.split_if-key-requires-clause-there
split_if-key-requires-clause-there c =
    rest_there c.args.tree.now c.args.entries.now c.split_leads-sort.result.0.now c.split_leads-sort.result.1.now c.split_leads-sort.ensures.leads c.requires.there

pub returns-clause-next : goal.returns-clause-next
returns-clause-next c =
    next_is c.args.tree.now c.args.in_list c.args.entries.now c.split_leads-sort.result.1.now c.split_if-key.result.1.now c.split_if-datum.result.1.now c.split_if-trailing.result.1.now
    record { leads = c.split_leads-sort.result.0; key = c.split_if-key.result.0; datum = c.split_if-datum.result.0; trailing = c.split_if-trailing.result.0 }
    c.begins_with_key-is_key.result c.is_empty.result c.is_trailing.result c.requires.some c.split_leads-sort.ensures.leads c.begins_with_key-is_key.ensures c.split_if-key.ensures.split
    c.is_empty.ensures c.split_if-datum.ensures.split
    (passes_by is_trailing (entries_at c.args.tree.now c.split_if-datum.result.1.now) _ c.is_trailing.result c.split_if-datum.ensures.sort c.is_trailing.ensures)
    c.split_if-trailing.ensures.split

pub returns-in-Some-Datum-Some-clause-next : goal.returns-in-Some-Datum-Some-clause-next
returns-in-Some-Datum-Some-clause-next c =
    let tree = c.args.tree.now in
    let entries : c.args.entries.now ≡ c.in-Some-Datum-Some.at.now ∷ c.in-Some-Datum-Some.behind.now = search rules in
    subst (λ (xs : List At). IsNext c.args.in_list (entries_at tree xs) (ref_at tree c.datum_slot.result.0) (entries_at tree c.datum_slot.result.1.now)) (sym entries)
    (c.datum_slot.ensures.next c.args.in_list)
