-- What is found in the page at the node's place.
use Rattle.std.proofs.Common.{get_or, refl, sym, ◌∙◌, arith}
use Rattle.rf_memo.proofs.Pages.{looked_past, looked_nowhere, looked_at, place_within}
use Rattle.rf_memo.proofs.memo.look_up.Goals as goal

pub returns-then-node-places : goal.returns-then-node-places
returns-then-node-places g c = looked_past c.args.places.now c.args.pages.now c.args.node c.args.col c.args.indent c.if-node-places.true

pub returns-then-place-eq0 : goal.returns-then-place-eq0
returns-then-place-eq0 g c = looked_nowhere c.args.places.now c.args.pages.now c.args.node c.args.col c.args.indent c.if-place-eq0.true

pub offset_bounds-pages-place : goal.offset_bounds-pages-place
offset_bounds-pages-place g c =
    let within = (place_within c.args.places.now c.args.pages.now c.args.node (get_or c.args.places.now c.args.node 0) refl c.if-place-eq0.false c.requires) in
    omega (arith, within.1)

pub bounds-pages-place : goal.bounds-pages-place
bounds-pages-place g c =
    let within = (place_within c.args.places.now c.args.pages.now c.args.node (get_or c.args.places.now c.args.node 0) refl c.if-place-eq0.false c.requires) in
    omega (arith, within.0, within.1)

pub returns : goal.returns
returns g c = c.get.ensures ∙ sym (looked_at c.args.places.now c.args.pages.now c.args.node c.args.col c.args.indent c.index-pages-place.result c.if-place-eq0.false c.requires)
