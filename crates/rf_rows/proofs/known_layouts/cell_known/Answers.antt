-- A cell is what its layouts are.
use Rattle.std.proofs.lemmas.Result.{IfOk-weaker}
use Rattle.rf_frontier.proofs.Ways.{keeps_same, keeps_then}
use Rattle.rf_outline.proofs.Holds.{known_is_in, known_kept}
use Rattle.rf_rows.proofs.Learning.{known_of, bare_layout, one_layout, two_layouts, three_layouts}
use Rattle.rf_rows.proofs.Opened.{stands_at}
use Rattle.rf_rows.proofs.UnmadeLines.{line_at, unmade_is}
use Rattle.rf_rows.proofs.known_layouts.cell_known.Goals as goal

pub choice-requires-clause-first : goal.choice-requires-clause-first
choice-requires-clause-first c =
    let rows = c.args.laid.now.rows.now in
    let stand = stands_at rows.pieces.items rows.cells.items c.args.k c.args.cell.now c.args.laid.now.rows.now.stand.cells c.requires.cell in
    known_is_in _ _ c.layout_known-first.result (c.layout_known-first.ensures _ _ _ _ stand c.requires.pieces)

pub choice-requires-clause-second : goal.choice-requires-clause-second
choice-requires-clause-second c =
    let rows = c.args.laid.now.rows.now in
    let stand = stands_at rows.pieces.items rows.cells.items c.args.k c.args.cell.now c.args.laid.now.rows.now.stand.cells c.requires.cell in
    known_is_in _ _ c.layout_known-second.result (c.layout_known-second.ensures _ _ _ _ stand c.requires.pieces)

pub choice-requires-in-Three-clause-first : goal.choice-requires-in-Three-clause-first
choice-requires-in-Three-clause-first c =
    let rows = c.args.laid.now.rows.now in
    let stand = stands_at rows.pieces.items rows.cells.items c.args.k c.args.cell.now c.args.laid.now.rows.now.stand.cells c.requires.cell in
    known_is_in _ _ c.layout_known-second-in-Three.result (c.layout_known-second-in-Three.ensures _ _ _ _ stand c.requires.pieces)

pub choice-requires-in-Three-clause-second : goal.choice-requires-in-Three-clause-second
choice-requires-in-Three-clause-second c =
    let rows = c.args.laid.now.rows.now in
    let stand = stands_at rows.pieces.items rows.cells.items c.args.k c.args.cell.now c.args.laid.now.rows.now.stand.cells c.requires.cell in
    known_is_in _ _ c.layout_known-third.result (c.layout_known-third.ensures _ _ _ _ stand c.requires.pieces)

pub choice-requires-in-Three-2-clause-first : goal.choice-requires-in-Three-2-clause-first
choice-requires-in-Three-2-clause-first c =
    let rows = c.args.laid.now.rows.now in
    let stand = stands_at rows.pieces.items rows.cells.items c.args.k c.args.cell.now c.args.laid.now.rows.now.stand.cells c.requires.cell in
    known_is_in _ _ c.layout_known-first-in-Three.result
    (known_kept _ _ _ c.layout_known-first-in-Three.result c.in_ok-others-in-Three.ensures.older (c.layout_known-first-in-Three.ensures _ _ _ _ stand c.requires.pieces))

pub choice-requires-in-Three-2-clause-second : goal.choice-requires-in-Three-2-clause-second
choice-requires-in-Three-2-clause-second c =
    let rows = c.args.laid.now.rows.now in
    let stand = stands_at rows.pieces.items rows.cells.items c.args.k c.args.cell.now c.args.laid.now.rows.now.stand.cells c.requires.cell in
    known_is_in _ _ c.in_ok-others-in-Three.others
    (c.in_ok-others-in-Three.ensures.known _ _ (c.layout_known-second-in-Three.ensures _ _ _ _ stand c.requires.pieces) (c.layout_known-third.ensures _ _ _ _ stand c.requires.pieces))

pub returns-in-Bare-clause-known : goal.returns-in-Bare-clause-known
returns-in-Bare-clause-known c =
    let rows = c.args.laid.now.rows.now in
    let stand = stands_at rows.pieces.items rows.cells.items c.args.k c.args.cell.now c.args.laid.now.rows.now.stand.cells c.requires.cell in
    known_of _ _ _ c.row_known.result (bare_layout rows.pieces.items rows.cells.items c.args.k c.args.cell.now c.args.laid.now.rows.now.stand.cells c.requires.cell c.in-Bare.is) (c.row_known.ensures _ _ _ _ stand c.requires.pieces)

pub returns-in-Bare-clause-older : goal.returns-in-Bare-clause-older
returns-in-Bare-clause-older c = keeps_same c.args.hows.now

pub returns-in-One-clause-known : goal.returns-in-One-clause-known
returns-in-One-clause-known c =
    let rows = c.args.laid.now.rows.now in
    let stand = stands_at rows.pieces.items rows.cells.items c.args.k c.args.cell.now c.args.laid.now.rows.now.stand.cells c.requires.cell in
    known_of _ _ _ c.layout_known.result (one_layout rows.pieces.items rows.cells.items c.args.k c.args.cell.now c.in-One.a c.args.laid.now.rows.now.stand.cells c.requires.cell c.in-One.is) (c.layout_known.ensures _ _ _ _ stand c.requires.pieces)

pub returns-in-One-clause-older : goal.returns-in-One-clause-older
returns-in-One-clause-older c = keeps_same c.args.hows.now

pub returns-in-Two-clause-known : goal.returns-in-Two-clause-known
returns-in-Two-clause-known c =
    let rows = c.args.laid.now.rows.now in
    let stand = stands_at rows.pieces.items rows.cells.items c.args.k c.args.cell.now c.args.laid.now.rows.now.stand.cells c.requires.cell in
    IfOk-weaker c.choice.result _ _
    (λ known h. known_of _ _ _ known (two_layouts rows.pieces.items rows.cells.items c.args.k c.args.cell.now c.in-Two.a c.in-Two.b c.args.laid.now.rows.now.stand.cells c.requires.cell c.in-Two.is)
    (h _ _ (c.layout_known-first.ensures _ _ _ _ stand c.requires.pieces) (c.layout_known-second.ensures _ _ _ _ stand c.requires.pieces)))
    c.choice.ensures.known

pub returns-in_ok-others-in-Three-clause-known : goal.returns-in_ok-others-in-Three-clause-known
returns-in_ok-others-in-Three-clause-known c =
    let rows = c.args.laid.now.rows.now in
    let stand = stands_at rows.pieces.items rows.cells.items c.args.k c.args.cell.now c.args.laid.now.rows.now.stand.cells c.requires.cell in
    IfOk-weaker c.choice-in-Three-2.result _ _
    (λ known h. known_of _ _ _ known (three_layouts rows.pieces.items rows.cells.items c.args.k c.args.cell.now c.in-Three.a c.in-Three.b c.in-Three.c c.args.laid.now.rows.now.stand.cells c.requires.cell c.in-Three.is)
    (h _ _ (known_kept _ _ _ c.layout_known-first-in-Three.result c.in_ok-others-in-Three.ensures.older (c.layout_known-first-in-Three.ensures _ _ _ _ stand c.requires.pieces))
    (c.in_ok-others-in-Three.ensures.known _ _ (c.layout_known-second-in-Three.ensures _ _ _ _ stand c.requires.pieces) (c.layout_known-third.ensures _ _ _ _ stand c.requires.pieces))))
    c.choice-in-Three-2.ensures.known

pub returns-in_ok-others-in-Three-clause-older : goal.returns-in_ok-others-in-Three-clause-older
returns-in_ok-others-in-Three-clause-older c = keeps_then c.args.hows.now _ _ c.in_ok-others-in-Three.ensures.older c.choice-in-Three-2.ensures.older

pub unmade_known-requires-clause-line : goal.unmade_known-requires-clause-line
unmade_known-requires-clause-line c =
    let rows = c.args.laid.now.rows.now in
    line_at rows.cells.items rows.turns.items c.args.k c.args.cell.now c.in-Unmade.unmade c.args.laid.now.rows.now.stand.lines c.requires.cell c.in-Unmade.is

pub returns-in-Unmade-clause-known : goal.returns-in-Unmade-clause-known
returns-in-Unmade-clause-known c =
    let rows = c.args.laid.now.rows.now in
    IfOk-weaker c.unmade_known.result _ _
    (λ known h. known_of _ _ _ known (unmade_is rows.pieces.items rows.cells.items c.args.k c.args.cell.now c.in-Unmade.unmade c.args.laid.now.rows.now.stand.cells c.requires.cell c.in-Unmade.is) h)
    c.unmade_known.ensures.known
