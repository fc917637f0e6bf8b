-- All that the search is told of rows holds from the beginning.
use Rattle.std.proofs.Common.{refl, sym, subst, arith}
use Rattle.rf_base_optimum.specs.MostPieces.{most_pieces}
use Rattle.rf_frontier.proofs.Ways.{keeps_length}
use Rattle.rf_rows.specs.Knowing.{AreKnownCells}
use Rattle.rf_rows.specs.declared.nodes.Node.TheVariants.{Cell}
use Rattle.rf_rows.specs.Nodes.{node_doc}
use Rattle.rf_rows.proofs.Tellings.{rows_are_told}
use Rattle.rf_search.proofs.Firsts.{holds_at_first, room_at_first, best_alone}
use Rattle.rf_search.proofs.Kept.{if_found}
use Rattle.rf_search.specs.Best.{IsBest}
use Rattle.rf_search.proofs.searching.search_rows.Goals as goal

pub search_told-requires-clause-holds : goal.search_told-requires-clause-holds
search_told-requires-clause-holds g c =
    let begun = c.in_ok-sought.ensures in
    let rows = c.args.laid.now.rows.now in
    holds_at_first _ c.args.limit c.in-Some.free c.begin.new.found (record { hows = c.know_cells.new.hows; newest = c.begin.new.found.newest; rows = c.begin.new.found.rows; several = c.begin.new.found.several })
    (g.met.F.Factory.lawful c.args.factory.now) c.requires.narrow c.in-Some.ensures.near c.in-Some.ensures.free begun c.in_ok-know_cells.ensures.older refl
    (rows_are_told c.know_cells.new.hows rows c.as_slice.result.now
    (omega (arith, begun.some, keeps_length _ _ c.in_ok-know_cells.ensures.older))
    (subst (λ z. AreKnownCells c.know_cells.new.hows rows.pieces.items rows.cells.items z) (sym c.as_slice.ensures.value) c.in_ok-know_cells.ensures.known))

pub search_told-requires-clause-room : goal.search_told-requires-clause-room
search_told-requires-clause-room g c =
    let rows = c.args.laid.now.rows.now in
    let d = node_doc rows.pieces.items rows.cells.items (Cell c.in-Some-top.cell) in
    room_at_first (g.F.Factory.costs c.args.factory.now) (most_pieces d) c.in-Some.ensures.free.reflects (c.requires.pieces d c.in-Some-top.ensures)

pub returns : goal.returns
returns g c =
    let rows = c.args.laid.now.rows.now in
    let whole = node_doc rows.pieces.items rows.cells.items (Cell c.in-Some-top.cell) in
    if_found c.search_told.result _ _
    (λ best h d alone.
    best_alone (g.F.Factory.costs c.args.factory.now) c.args.limit rows whole d best.choices.items best.within c.in-Some-top.ensures alone
    (subst (λ w. IsBest (g.F.Factory.costs c.args.factory.now) w whole best.choices.items best.within) c.in_ok-sought.ensures.limit_is h))
    c.search_told.ensures
