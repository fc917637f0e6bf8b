-- The entry is put at its place.
use Rattle.rf_memo.proofs.Entries.{inserted_puts, inserted_ordered, same_before, same_behind}
use Rattle.rf_memo.proofs.page.insert.Goals as goal

pub returns-in-Ok-clause-ordered : goal.returns-in-Ok-clause-ordered
returns-in-Ok-clause-ordered g c =
    inserted_ordered c.args.entries.now.items c.insert.new.self.items c.place_of-at.result c.args.col c.args.indent c.args.value c.in-Ok.ensures.items c.requires.ordered c.requires.new
    (same_before c.as_slice.result.now c.args.entries.now.items c.place_of-at.result c.args.col c.args.indent c.as_slice.ensures.value c.place_of-at.ensures.before)
    (same_behind c.as_slice.result.now c.args.entries.now.items c.place_of-at.result c.args.col c.args.indent c.as_slice.ensures.value c.place_of-at.ensures.behind)

pub returns-in-Ok-clause-put : goal.returns-in-Ok-clause-put
returns-in-Ok-clause-put g c =
    inserted_puts c.args.entries.now.items c.insert.new.self.items c.place_of-at.result c.args.col c.args.indent c.args.value c.in-Ok.ensures.items
    (same_before c.as_slice.result.now c.args.entries.now.items c.place_of-at.result c.args.col c.args.indent c.as_slice.ensures.value c.place_of-at.ensures.before)
