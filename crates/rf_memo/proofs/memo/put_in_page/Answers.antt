-- The page of the node, or a new one, gets the value.
use Rattle.std.proofs.Common.{◌-◌, set, arith}
use Rattle.rf_memo.specs.Memo.{entries_by_node}
use Rattle.rf_memo.proofs.Entries.{on_ok, on_err}
use Rattle.rf_memo.proofs.Pages.{owned_same, found_same, puts_same, same_same, place_within, place_read, page_new, page_owned, page_puts, page_same}
use Rattle.rf_memo.proofs.memo.put_in_page.Goals as goal

pub returns-then-not-reaches-clause-owned : goal.returns-then-not-reaches-clause-owned
returns-then-not-reaches-clause-owned g c = owned_same c.args.places.now.items c.reaches.new.places.items c.args.pages.now.items c.reaches.ensures.same c.requires.owned

pub returns-then-not-reaches-clause-unchanged : goal.returns-then-not-reaches-clause-unchanged
returns-then-not-reaches-clause-unchanged g c = found_same c.args.places.now.items c.reaches.new.places.items c.args.pages.now.items c.reaches.ensures.same

pub put_first-requires-clause-owned : goal.put_first-requires-clause-owned
put_first-requires-clause-owned g c = owned_same c.args.places.now.items c.reaches.new.places.items c.args.pages.now.items c.reaches.ensures.same c.requires.owned

pub returns-then-place-eq0-clause-put : goal.returns-then-place-eq0-clause-put
returns-then-place-eq0-clause-put g c =
    on_ok c.put_first.result _ _
    (λ p. puts_same (entries_by_node c.args.places.now.items c.args.pages.now.items) (entries_by_node c.reaches.new.places.items c.args.pages.now.items) (entries_by_node c.put_first.new.places.items c.put_first.new.pages.items)
    c.args.node c.args.col c.args.indent c.args.value (found_same c.args.places.now.items c.reaches.new.places.items c.args.pages.now.items c.reaches.ensures.same) p)
    c.put_first.ensures.put

pub returns-then-place-eq0-clause-unchanged : goal.returns-then-place-eq0-clause-unchanged
returns-then-place-eq0-clause-unchanged g c =
    on_err c.put_first.result _ _
    (λ p. same_same (entries_by_node c.args.places.now.items c.args.pages.now.items) (entries_by_node c.reaches.new.places.items c.args.pages.now.items) (entries_by_node c.put_first.new.places.items c.put_first.new.pages.items) (found_same c.args.places.now.items c.reaches.new.places.items c.args.pages.now.items c.reaches.ensures.same) p)
    c.put_first.ensures.unchanged

pub index_mut-page-requires : goal.index_mut-page-requires
index_mut-page-requires g c =
    let within = place_within c.reaches.new.places.items c.args.pages.now.items c.args.node c.index-place.result.now (place_read c.reaches.new.places.items c.args.node c.index-place.result.now c.index-place.ensures c.if-not-reaches.ensures.reached) c.if-place-eq0.false (owned_same c.args.places.now.items c.reaches.new.places.items c.args.pages.now.items c.reaches.ensures.same c.requires.owned) in
    omega (arith, within.0, within.1)

pub put-requires : goal.put-requires
put-requires g c =
    page_new c.args.places.now.items c.reaches.new.places.items c.args.pages.now.items c.args.node c.args.col c.args.indent c.index-place.result.now c.index_mut-page.result.now c.reaches.ensures.same
    (place_read c.reaches.new.places.items c.args.node c.index-place.result.now c.index-place.ensures c.if-not-reaches.ensures.reached) c.if-place-eq0.false c.requires.owned c.index_mut-page.ensures.value c.requires.new

pub returns-clause-owned : goal.returns-clause-owned
returns-clause-owned g c = page_owned c.reaches.new.places.items c.args.pages.now.items (c.index-place.result.now - 1) c.index_mut-page.result.now c.put.new.self c.index_mut-page.ensures.value (owned_same c.args.places.now.items c.reaches.new.places.items c.args.pages.now.items c.reaches.ensures.same c.requires.owned)

pub returns-clause-put : goal.returns-clause-put
returns-clause-put g c =
    on_ok c.put.result _ _
    (λ p. puts_same (entries_by_node c.args.places.now.items c.args.pages.now.items) (entries_by_node c.reaches.new.places.items c.args.pages.now.items) (entries_by_node c.reaches.new.places.items (set c.args.pages.now.items (c.index-place.result.now - 1) (c.index_mut-page.result.now.0, c.put.new.self)))
    c.args.node c.args.col c.args.indent c.args.value (found_same c.args.places.now.items c.reaches.new.places.items c.args.pages.now.items c.reaches.ensures.same)
    (page_puts c.reaches.new.places.items c.args.pages.now.items c.args.node c.index-place.result.now c.args.col c.args.indent c.index_mut-page.result.now c.put.new.self c.args.value
    (place_read c.reaches.new.places.items c.args.node c.index-place.result.now c.index-place.ensures c.if-not-reaches.ensures.reached) c.if-place-eq0.false (owned_same c.args.places.now.items c.reaches.new.places.items c.args.pages.now.items c.reaches.ensures.same c.requires.owned) c.index_mut-page.ensures.value p))
    c.put.ensures.put

pub returns-clause-unchanged : goal.returns-clause-unchanged
returns-clause-unchanged g c =
    on_err c.put.result _ _
    (λ p. same_same (entries_by_node c.args.places.now.items c.args.pages.now.items) (entries_by_node c.reaches.new.places.items c.args.pages.now.items) (entries_by_node c.reaches.new.places.items (set c.args.pages.now.items (c.index-place.result.now - 1) (c.index_mut-page.result.now.0, c.put.new.self))) (found_same c.args.places.now.items c.reaches.new.places.items c.args.pages.now.items c.reaches.ensures.same)
    (page_same c.reaches.new.places.items c.args.pages.now.items (c.index-place.result.now - 1) c.index_mut-page.result.now c.put.new.self c.index_mut-page.ensures.value p))
    c.put.ensures.unchanged
