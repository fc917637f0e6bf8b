-- All that the search is told of a graph holds from the beginning.
use Rattle.std.proofs.Common.{refl, sym, subst, arith}
use Rattle.rf_base_document.specs.Graph.{unfolded}
use Rattle.rf_base_document.proofs.Graph.{StandsFor-unfolded}
use Rattle.rf_base_optimum.specs.MostPieces.{most_pieces}
use Rattle.rf_frontier.proofs.Ways.{keeps_length}
use Rattle.rf_outline.specs.Known.{AreKnown}
use Rattle.rf_outline.proofs.Tellings.{outlined_is_told}
use Rattle.rf_search.proofs.Firsts.{holds_at_first, best_of_node, room_at_first}
use Rattle.rf_search.proofs.Kept.{if_found}
use Rattle.rf_search.specs.Best.{IsBest}
use Rattle.rf_search.proofs.searching.search.Goals as goal

pub search_told-requires-clause-holds : goal.search_told-requires-clause-holds
search_told-requires-clause-holds g c =
    let begun = c.in_ok-sought.ensures in
    holds_at_first _ c.args.limit c.in-Some.free c.begin.new.found (record { hows = c.outline.new.hows; newest = c.begin.new.found.newest; rows = c.begin.new.found.rows; several = c.begin.new.found.several })
    (g.met.F.Factory.lawful c.args.factory.now) c.requires.narrow c.in-Some.ensures.near c.in-Some.ensures.free begun c.in_ok-outline.ensures.older refl
    (outlined_is_told c.outline.new.hows c.args.graph.now c.as_slice.result.now c.len.ensures.is_graph
    (omega (arith, begun.some, keeps_length _ _ c.in_ok-outline.ensures.older))
    (subst (λ z. AreKnown c.outline.new.hows c.args.graph.now z) (sym c.as_slice.ensures.value) c.in_ok-outline.ensures.known))

pub search_told-requires-clause-room : goal.search_told-requires-clause-room
search_told-requires-clause-room g c =
    room_at_first (g.F.Factory.costs c.args.factory.now) (most_pieces (unfolded c.args.graph.now c.args.root.0)) c.in-Some.ensures.free.reflects
    (c.requires.pieces (unfolded c.args.graph.now c.args.root.0) (StandsFor-unfolded c.args.graph.now c.args.root.0 c.len.ensures.is_graph c.requires.root))

pub returns : goal.returns
returns g c =
    if_found c.search_told.result _ _
    (λ best h d stands.
    best_of_node (g.F.Factory.costs c.args.factory.now) c.args.limit c.args.graph.now c.args.root.0 d best.choices.items best.within c.len.ensures.is_graph stands
    (subst (λ w. IsBest (g.F.Factory.costs c.args.factory.now) w (unfolded c.args.graph.now c.args.root.0) best.choices.items best.within) c.in_ok-sought.ensures.limit_is h))
    c.search_told.ensures
