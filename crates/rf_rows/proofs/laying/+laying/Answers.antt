-- A cell is laid out as its pieces are.
use Rattle.std.proofs.Common.{◌≡◌, inl, inr, ℕ, Some, Result, Err, IsErrAnd, slice_get, ap, sym, subst, ◌∙◌, refl, arith}
use Rattle.std.specs.Prelude.{IsErrOf}
use Rattle.std.proofs.lemmas.Result.{err_from_is_err_and, IfOk-weaker}
use Rattle.std.specs.Str.{chars}
use Rattle.rf_walk.specs.declared.faults.LayoutError.{LayoutError}
use Rattle.rf_walk.specs.declared.faults.LayoutError.TheVariants.{TooLong}
use Rattle.rf_rows.specs.declared.cells.Cell as declared
use Rattle.rf_rows.specs.declared.halts.Halt.{Halt}
use Rattle.rf_rows.specs.declared.halts.Halt.TheVariants.{Refused}
use Rattle.rf_rows.specs.declared.laid.LaidRows.{LaidRows}
use Rattle.rf_rows.specs.declared.layouts.Layouts.{Layouts}
use Rattle.rf_rows.specs.Layouts.{inner_docs, cell_doc, AreCellLayouts}
use Rattle.rf_rows.specs.Cells.{piece_doc, pieces_of, IsBelow}
use Rattle.rf_rows.specs.Laid.{laid_cell, laid_pieces, laid_row}
use Rattle.rf_rows.specs.Laying.{too_long}
use Rattle.rf_rows.proofs.Limits.{All-found}
use Rattle.rf_rows.proofs.Frames.{may_go, past_from, are_laid, then_laid, text_laid, text_past, aligned_on, nested_on, left_on, right_on, choice_past, choice_more, row_is_none, row_on, layout_on, go_as, next_behind, no_frames, pieces_end, inner_lower, depth_small}
use Rattle.rf_rows.proofs.Opened.{stands_at, cell_is}
use Rattle.rf_rows.proofs.Slices.{get_none, get_some}
use Rattle.rf_rows.proofs.Unfolding.{no_cell}
use Rattle.rf_rows.proofs.UnmadeLines.{line_at, unmade_is, never_made}
use Rattle.rf_rows.proofs.Turns.{same_err}
use Rattle.rf_rows.proofs.laying.+laying.Goals as goal

-- an error of the paper's that goes on as too long was that
refused : {T U : Type 0} (r : Result T Halt) {e : LayoutError} → IsErrAnd r (λ h. h ≡ Refused e) →
    IsErrOf r too_long → IsErrOf {T = U} (Err e) TooLong
refused r is long = let p = err_from_is_err_and r is in cc

-- what a cell stands for by its layouts
cell_as : (laid : LaidRows) (k : ℕ) {c : declared.Cell} {ls : Layouts} →
    slice_get laid.rows.now.cells.items k ≡ Some c → c.layouts ≡ ls →
    laid_cell laid k ≡ cell_doc c.marks c.count (laid_pieces laid c) ls
cell_as laid k {c} {ls} there is = cell_is laid.rows.now.pieces.items laid.rows.now.cells.items k c ls laid.rows.now.stand.cells there is

-- the charges of its layouts are small
charges : (laid : LaidRows) (k : ℕ) {c : declared.Cell} {ls : Layouts} →
    slice_get laid.rows.now.cells.items k ≡ Some c → c.layouts ≡ ls → AreCellLayouts ls c.count
charges laid k {c} there is =
    subst (λ (l : Layouts). AreCellLayouts l c.count) is (stands_at laid.rows.now.pieces.items laid.rows.now.cells.items k c laid.rows.now.stand.cells there).layouts

-- a piece
pub lay_piece-returns-in_err-lay_leaf-in_default-clause-too_long : goal.lay_piece-returns-in_err-lay_leaf-in_default-clause-too_long
lay_piece-returns-in_err-lay_leaf-in_default-clause-too_long g t c long =
    c.in_err-lay_leaf-in_default.ensures.too_long (refused c.from_residual.result c.from_residual.ensures.1 long)

pub lay_piece-returns-in-Cell-clause-too_long : goal.lay_piece-returns-in-Cell-clause-too_long
lay_piece-returns-in-Cell-clause-too_long g t c long =
    past_from (go_as g.P.Paper.holds (ap (piece_doc (laid_cell c.args.laid.now) c.args.fill) c.in-Cell.is)) (c.lay_cell.ensures.too_long long)

-- pieces
pub lay_some-lay_piece-requires : goal.lay_some-lay_piece-requires
lay_some-lay_piece-requires g t c κs within =
    let rows = c.args.laid.now.rows.now in
    let here = stands_at rows.pieces.items rows.cells.items c.args.k c.args.cell.now c.args.laid.now.rows.now.stand.cells c.requires.cell in
    let qs = pieces_of rows.pieces.items c.args.cell.now in
    let below = All-found (IsBelow c.args.k) qs c.loop-at.at c.piece_of-piece.result here.below c.piece_of-piece.ensures.piece in
    (omega (arith, c.decreases), (within, (below, may_go (next_behind g.P.Paper.holds c.args.laid.now c.args.cell.now c.args.fill c.args.from c.loop-at.invariant.laid c.loop-at-test.true c.piece_of-piece.ensures.piece) c.requires.next)))

pub lay_some-returns-in_err-left-clause-too_long : goal.lay_some-returns-in_err-left-clause-too_long
lay_some-returns-in_err-left-clause-too_long g t c long =
    past_from (next_behind g.P.Paper.holds c.args.laid.now c.args.cell.now c.args.fill c.args.from c.loop-at.invariant.laid c.loop-at-test.true c.piece_of-piece.ensures.piece)
    (c.in_err-left.ensures.too_long (same_err c.from_residual.ensures.1 long))

pub lay_some-loop-at-preserved : goal.lay_some-loop-at-preserved
lay_some-loop-at-preserved g t c = record {
  order = omega (arith, c.loop-at-test.true);
  laid = then_laid (next_behind g.P.Paper.holds c.args.laid.now c.args.cell.now c.args.fill c.args.from c.loop-at.invariant.laid c.loop-at-test.true c.piece_of-piece.ensures.piece)
      c.in_ok-left.ensures.laid;
}

pub lay_some-returns-clause-laid : goal.lay_some-returns-clause-laid
lay_some-returns-clause-laid g t c =
    are_laid c.loop-at.invariant.laid (pieces_end g.P.Paper.holds c.loop-at.paper c.args.spot (laid_pieces c.args.laid.now c.args.cell.now c.args.fill)
    c.loop-at.at c.args.to c.loop-at.left.now (omega (arith, c.loop-at.invariant.order, c.loop-at-test.false)))

pub lay_pieces-returns-then-from-to-clause-laid : goal.lay_pieces-returns-then-from-to-clause-laid
lay_pieces-returns-then-from-to-clause-laid g t c =
    pieces_end g.P.Paper.holds c.args.paper.now c.args.spot (laid_pieces c.args.laid.now c.args.cell.now c.args.fill) c.args.from c.args.to c.args.choices.now c.if-from-to.true

-- a layout
pub lay_layout-lay_row-requires : goal.lay_layout-lay_row-requires
lay_layout-lay_row-requires g t c κs within =
    (omega (arith, c.decreases, depth_small c.args.layout.row), (within, (c.requires.cell, may_go (layout_on g.P.Paper.holds c.args.paper.now c.pay.new.paper c.args.laid.now c.args.cell.now c.args.layout c.pay.ensures c.column.ensures c.one_holds.ensures) c.requires.next)))

pub lay_layout-returns-clause-laid : goal.lay_layout-returns-clause-laid
lay_layout-returns-clause-laid g t c =
    IfOk-weaker c.lay_row.result _ _ (λ left. are_laid (layout_on g.P.Paper.holds c.args.paper.now c.pay.new.paper c.args.laid.now c.args.cell.now c.args.layout c.pay.ensures c.column.ensures c.one_holds.ensures)) c.lay_row.ensures.laid

pub lay_layout-returns-clause-too_long : goal.lay_layout-returns-clause-too_long
lay_layout-returns-clause-too_long g t c long =
    past_from (layout_on g.P.Paper.holds c.args.paper.now c.pay.new.paper c.args.laid.now c.args.cell.now c.args.layout c.pay.ensures c.column.ensures c.one_holds.ensures) (c.lay_row.ensures.too_long long)

-- one of two layouts
pub lay_one_of-first_choice-dir-requires : goal.lay_one_of-first_choice-dir-requires
lay_one_of-first_choice-dir-requires g t c = choice_more g.P.Paper.holds refl c.requires.next

pub lay_one_of-returns-in_err-choice-clause-too_long : goal.lay_one_of-returns-in_err-choice-clause-too_long
lay_one_of-returns-in_err-choice-clause-too_long g t c long =
    choice_past g.P.Paper.holds c.args.spot refl c.first_choice-dir.ensures (c.in_err-choice.ensures.too_long (refused c.from_residual.result c.from_residual.ensures.1 long))

pub lay_one_of-lay_layout-requires : goal.lay_one_of-lay_layout-requires
lay_one_of-lay_layout-requires g t c κs within =
    (omega (arith, c.decreases), (within, (c.requires.cell, (c.requires.charges.0, may_go (left_on g.P.Paper.holds refl c.first_choice-dir.ensures c.in-Left.is c.in_ok-choice.ensures.counted) c.requires.next))))

pub lay_one_of-returns-in-Left-clause-laid : goal.lay_one_of-returns-in-Left-clause-laid
lay_one_of-returns-in-Left-clause-laid g t c =
    IfOk-weaker c.lay_layout.result _ _ (λ left. are_laid (left_on g.P.Paper.holds refl c.first_choice-dir.ensures c.in-Left.is c.in_ok-choice.ensures.counted)) c.lay_layout.ensures.laid

pub lay_one_of-returns-in-Left-clause-too_long : goal.lay_one_of-returns-in-Left-clause-too_long
lay_one_of-returns-in-Left-clause-too_long g t c long =
    past_from (left_on g.P.Paper.holds refl c.first_choice-dir.ensures c.in-Left.is c.in_ok-choice.ensures.counted) (c.lay_layout.ensures.too_long long)

pub lay_one_of-lay_layout-requires-in-Right : goal.lay_one_of-lay_layout-requires-in-Right
lay_one_of-lay_layout-requires-in-Right g t c κs within =
    (omega (arith, c.decreases), (within, (c.requires.cell, (c.requires.charges.1, may_go (right_on g.P.Paper.holds refl c.first_choice-dir.ensures c.in-Right.is c.in_ok-choice.ensures.counted) c.requires.next))))

pub lay_one_of-returns-in-Right-clause-laid : goal.lay_one_of-returns-in-Right-clause-laid
lay_one_of-returns-in-Right-clause-laid g t c =
    IfOk-weaker c.lay_layout-in-Right.result _ _ (λ left. are_laid (right_on g.P.Paper.holds refl c.first_choice-dir.ensures c.in-Right.is c.in_ok-choice.ensures.counted)) c.lay_layout-in-Right.ensures.laid

pub lay_one_of-returns-in-Right-clause-too_long : goal.lay_one_of-returns-in-Right-clause-too_long
lay_one_of-returns-in-Right-clause-too_long g t c long =
    past_from (right_on g.P.Paper.holds refl c.first_choice-dir.ensures c.in-Right.is c.in_ok-choice.ensures.counted) (c.lay_layout-in-Right.ensures.too_long long)

-- a row in another row
pub lay_inner-lay_row_within-requires : goal.lay_inner-lay_row_within-requires
lay_inner-lay_row_within-requires g t c κs within =
    let cell = c.args.cell.now in
    let is = c.in-Some.is ∙ ap Some c.in-Aligned.is in
    let lower = inner_lower cell.marks cell.count c.args._row c.in-Aligned.row c.args.inner c.requires.inner (inl is) in
    (omega (arith, c.decreases, lower), (within, (c.requires.cell, may_go (aligned_on g.P.Paper.holds c.args.paper.now c.args.spot (laid_row c.args.laid.now cell) is c.column.ensures refl) c.requires.next)))

pub lay_inner-returns-in-Aligned-clause-laid : goal.lay_inner-returns-in-Aligned-clause-laid
lay_inner-returns-in-Aligned-clause-laid g t c =
    IfOk-weaker c.lay_row_within.result _ _ (λ left. are_laid (aligned_on g.P.Paper.holds c.args.paper.now c.args.spot (laid_row c.args.laid.now c.args.cell.now) (c.in-Some.is ∙ ap Some c.in-Aligned.is) c.column.ensures refl)) c.lay_row_within.ensures.laid

pub lay_inner-returns-in-Aligned-clause-too_long : goal.lay_inner-returns-in-Aligned-clause-too_long
lay_inner-returns-in-Aligned-clause-too_long g t c long =
    past_from (aligned_on g.P.Paper.holds c.args.paper.now c.args.spot (laid_row c.args.laid.now c.args.cell.now) (c.in-Some.is ∙ ap Some c.in-Aligned.is) c.column.ensures refl) (c.lay_row_within.ensures.too_long long)

pub lay_inner-lay_row_within-requires-in-Nested : goal.lay_inner-lay_row_within-requires-in-Nested
lay_inner-lay_row_within-requires-in-Nested g t c κs within =
    let cell = c.args.cell.now in
    let is = c.in-Some.is ∙ ap Some c.in-Nested.is in
    let lower = inner_lower cell.marks cell.count c.args._row c.in-Nested.row c.args.inner c.requires.inner (inr is) in
    (omega (arith, c.decreases, lower), (within, (c.requires.cell, may_go (nested_on g.P.Paper.holds c.args.paper.now c.args.spot (laid_row c.args.laid.now cell) is c.deeper.ensures refl) c.requires.next)))

pub lay_inner-returns-in-Nested-clause-laid : goal.lay_inner-returns-in-Nested-clause-laid
lay_inner-returns-in-Nested-clause-laid g t c =
    IfOk-weaker c.lay_row_within-in-Nested.result _ _ (λ left. are_laid (nested_on g.P.Paper.holds c.args.paper.now c.args.spot (laid_row c.args.laid.now c.args.cell.now) (c.in-Some.is ∙ ap Some c.in-Nested.is) c.deeper.ensures refl)) c.lay_row_within-in-Nested.ensures.laid

pub lay_inner-returns-in-Nested-clause-too_long : goal.lay_inner-returns-in-Nested-clause-too_long
lay_inner-returns-in-Nested-clause-too_long g t c long =
    past_from (nested_on g.P.Paper.holds c.args.paper.now c.args.spot (laid_row c.args.laid.now c.args.cell.now) (c.in-Some.is ∙ ap Some c.in-Nested.is) c.deeper.ensures refl) (c.lay_row_within-in-Nested.ensures.too_long long)

pub lay_inner-returns-in_default-clause-laid : goal.lay_inner-returns-in_default-clause-laid
lay_inner-returns-in_default-clause-laid g t c =
    let told = laid_row c.args.laid.now c.args.cell.now in
    no_frames g.P.Paper.holds c.args.paper.now c.args.spot (inner_docs told c.args.inner) c.args.choices.now (ap (inner_docs told) c.in_default.is)

-- a row
pub lay_row-returns-in_err-word-clause-too_long : goal.lay_row-returns-in_err-word-clause-too_long
unfolding chars
lay_row-returns-in_err-word-clause-too_long g t c long =
    text_past g.P.Paper.holds c.args.spot (row_is_none c.args.laid.now c.args.k c.args.row c.strip-strip.result c.requires.cell c.strip-strip.ensures.strip (sym c.len.ensures ∙ c.if-len-eq0.true))
    (c.in_err-word.ensures.too_long (refused c.from_residual.result c.from_residual.ensures.1 long))

pub lay_row-returns-then-len-eq0-clause-laid : goal.lay_row-returns-then-len-eq0-clause-laid
unfolding chars
lay_row-returns-then-len-eq0-clause-laid g t c =
    text_laid g.P.Paper.holds c.args.spot (row_is_none c.args.laid.now c.args.k c.args.row c.strip-strip.result c.requires.cell c.strip-strip.ensures.strip (sym c.len.ensures ∙ c.if-len-eq0.true)) c.in_ok-word.ensures.put

pub lay_row-lay_pieces-requires : goal.lay_row-lay_pieces-requires
lay_row-lay_pieces-requires g t c κs within =
    let h = c.strip-strip.ensures.stands in
    (omega (arith, c.decreases), (within, (c.requires.cell, (h.head, (omega (arith, h.between, h.tail, h.within), may_go (row_on g.P.Paper.holds c.args.laid.now c.args.k c.args.row c.strip-strip.result c.requires.cell c.strip-strip.ensures.strip (omega (arith, c.len.ensures, c.if-len-eq0.false))) c.requires.next)))))

pub lay_row-returns-in_err-behind_head-clause-too_long : goal.lay_row-returns-in_err-behind_head-clause-too_long
lay_row-returns-in_err-behind_head-clause-too_long g t c long =
    past_from (row_on g.P.Paper.holds c.args.laid.now c.args.k c.args.row c.strip-strip.result c.requires.cell c.strip-strip.ensures.strip (omega (arith, c.len.ensures, c.if-len-eq0.false)))
    (c.in_err-behind_head.ensures.too_long (same_err c.from_residual-in_err-behind_head.ensures.1 long))

pub lay_row-lay_inner-requires : goal.lay_row-lay_inner-requires
lay_row-lay_inner-requires g t c κs within =
    (omega (arith, c.decreases), (within, (c.requires.cell, (ap (λ x. x.inner) (sym c.strip-strip.ensures.strip), may_go (then_laid (row_on g.P.Paper.holds c.args.laid.now c.args.k c.args.row c.strip-strip.result c.requires.cell c.strip-strip.ensures.strip (omega (arith, c.len.ensures, c.if-len-eq0.false))) c.in_ok-behind_head.ensures.laid) c.requires.next))))

pub lay_row-returns-in_err-behind_inner-clause-too_long : goal.lay_row-returns-in_err-behind_inner-clause-too_long
lay_row-returns-in_err-behind_inner-clause-too_long g t c long =
    past_from (then_laid (row_on g.P.Paper.holds c.args.laid.now c.args.k c.args.row c.strip-strip.result c.requires.cell c.strip-strip.ensures.strip (omega (arith, c.len.ensures, c.if-len-eq0.false))) c.in_ok-behind_head.ensures.laid)
    (c.in_err-behind_inner.ensures.too_long (same_err c.from_residual-in_err-behind_inner.ensures.1 long))

pub lay_row-lay_pieces-requires-2 : goal.lay_row-lay_pieces-requires-2
lay_row-lay_pieces-requires-2 g t c κs within =
    let h = c.strip-strip.ensures.stands in
    (omega (arith, c.decreases), (within, (c.requires.cell, (h.tail, (h.within, may_go (then_laid (then_laid (row_on g.P.Paper.holds c.args.laid.now c.args.k c.args.row c.strip-strip.result c.requires.cell c.strip-strip.ensures.strip (omega (arith, c.len.ensures, c.if-len-eq0.false))) c.in_ok-behind_head.ensures.laid) c.in_ok-behind_inner.ensures.laid) c.requires.next)))))

pub lay_row-returns-clause-laid : goal.lay_row-returns-clause-laid
lay_row-returns-clause-laid g t c =
    IfOk-weaker c.lay_pieces-2.result _ _ (λ left. are_laid (then_laid (then_laid (row_on g.P.Paper.holds c.args.laid.now c.args.k c.args.row c.strip-strip.result c.requires.cell c.strip-strip.ensures.strip (omega (arith, c.len.ensures, c.if-len-eq0.false))) c.in_ok-behind_head.ensures.laid)
    c.in_ok-behind_inner.ensures.laid)) c.lay_pieces-2.ensures.laid

pub lay_row-returns-clause-too_long : goal.lay_row-returns-clause-too_long
lay_row-returns-clause-too_long g t c long =
    past_from (then_laid (then_laid (row_on g.P.Paper.holds c.args.laid.now c.args.k c.args.row c.strip-strip.result c.requires.cell c.strip-strip.ensures.strip (omega (arith, c.len.ensures, c.if-len-eq0.false))) c.in_ok-behind_head.ensures.laid)
    c.in_ok-behind_inner.ensures.laid) (c.lay_pieces-2.ensures.too_long long)

-- a cell
pub lay_cell-returns-in_err-word-clause-too_long : goal.lay_cell-returns-in_err-word-clause-too_long
unfolding chars
lay_cell-returns-in_err-word-clause-too_long g t c long =
    let rows = c.args.laid.now.rows.now in
    text_past g.P.Paper.holds c.args.spot (no_cell rows.pieces.items rows.cells.items c.args.k (get_none c.args.k c.deref.ensures.value c.in_default.ensures.lookup.0)) (c.in_err-word.ensures.too_long (refused c.from_residual.result c.from_residual.ensures.1 long))

pub lay_cell-returns-in_default-clause-laid : goal.lay_cell-returns-in_default-clause-laid
unfolding chars
lay_cell-returns-in_default-clause-laid g t c =
    let rows = c.args.laid.now.rows.now in
    text_laid g.P.Paper.holds c.args.spot (no_cell rows.pieces.items rows.cells.items c.args.k (get_none c.args.k c.deref.ensures.value c.in_default.ensures.lookup.0)) c.in_ok-word.ensures.put

pub lay_cell-lay_row-requires : goal.lay_cell-lay_row-requires
unfolding cell_doc
lay_cell-lay_row-requires g t c κs within =
    let there = get_some c.args.k c.deref.ensures.value c.in-Some.ensures.lookup.0 c.in-Some.ensures.lookup.1 in
    (omega (arith, c.decreases), (within, (there, may_go (go_as g.P.Paper.holds (cell_as c.args.laid.now c.args.k there c.in-Bare.is)) c.requires)))

pub lay_cell-returns-in-Bare-clause-laid : goal.lay_cell-returns-in-Bare-clause-laid
unfolding cell_doc
lay_cell-returns-in-Bare-clause-laid g t c =
    IfOk-weaker c.lay_row.result _ _ (λ left. are_laid (go_as g.P.Paper.holds (cell_as c.args.laid.now c.args.k (get_some c.args.k c.deref.ensures.value c.in-Some.ensures.lookup.0 c.in-Some.ensures.lookup.1) c.in-Bare.is))) c.lay_row.ensures.laid

pub lay_cell-returns-in-Bare-clause-too_long : goal.lay_cell-returns-in-Bare-clause-too_long
unfolding cell_doc
lay_cell-returns-in-Bare-clause-too_long g t c long =
    past_from (go_as g.P.Paper.holds (cell_as c.args.laid.now c.args.k (get_some c.args.k c.deref.ensures.value c.in-Some.ensures.lookup.0 c.in-Some.ensures.lookup.1) c.in-Bare.is)) (c.lay_row.ensures.too_long long)

pub lay_cell-lay_layout-requires : goal.lay_cell-lay_layout-requires
unfolding cell_doc
lay_cell-lay_layout-requires g t c κs within =
    let there = get_some c.args.k c.deref.ensures.value c.in-Some.ensures.lookup.0 c.in-Some.ensures.lookup.1 in
    (omega (arith, c.decreases), (within, (there, (charges c.args.laid.now c.args.k there c.in-One.is, may_go (go_as g.P.Paper.holds (cell_as c.args.laid.now c.args.k there c.in-One.is)) c.requires))))

pub lay_cell-returns-in-One-clause-laid : goal.lay_cell-returns-in-One-clause-laid
unfolding cell_doc
lay_cell-returns-in-One-clause-laid g t c =
    IfOk-weaker c.lay_layout.result _ _ (λ left. are_laid (go_as g.P.Paper.holds (cell_as c.args.laid.now c.args.k (get_some c.args.k c.deref.ensures.value c.in-Some.ensures.lookup.0 c.in-Some.ensures.lookup.1) c.in-One.is))) c.lay_layout.ensures.laid

pub lay_cell-returns-in-One-clause-too_long : goal.lay_cell-returns-in-One-clause-too_long
unfolding cell_doc
lay_cell-returns-in-One-clause-too_long g t c long =
    past_from (go_as g.P.Paper.holds (cell_as c.args.laid.now c.args.k (get_some c.args.k c.deref.ensures.value c.in-Some.ensures.lookup.0 c.in-Some.ensures.lookup.1) c.in-One.is)) (c.lay_layout.ensures.too_long long)

pub lay_cell-lay_one_of-requires : goal.lay_cell-lay_one_of-requires
unfolding cell_doc
lay_cell-lay_one_of-requires g t c κs within =
    let there = get_some c.args.k c.deref.ensures.value c.in-Some.ensures.lookup.0 c.in-Some.ensures.lookup.1 in
    (omega (arith, c.decreases), (within, (there, (charges c.args.laid.now c.args.k there c.in-Two.is, may_go (go_as g.P.Paper.holds (cell_as c.args.laid.now c.args.k there c.in-Two.is)) c.requires))))

pub lay_cell-returns-in-Two-clause-laid : goal.lay_cell-returns-in-Two-clause-laid
unfolding cell_doc
lay_cell-returns-in-Two-clause-laid g t c =
    IfOk-weaker c.lay_one_of.result _ _ (λ left. are_laid (go_as g.P.Paper.holds (cell_as c.args.laid.now c.args.k (get_some c.args.k c.deref.ensures.value c.in-Some.ensures.lookup.0 c.in-Some.ensures.lookup.1) c.in-Two.is))) c.lay_one_of.ensures.laid

pub lay_cell-returns-in-Two-clause-too_long : goal.lay_cell-returns-in-Two-clause-too_long
unfolding cell_doc
lay_cell-returns-in-Two-clause-too_long g t c long =
    past_from (go_as g.P.Paper.holds (cell_as c.args.laid.now c.args.k (get_some c.args.k c.deref.ensures.value c.in-Some.ensures.lookup.0 c.in-Some.ensures.lookup.1) c.in-Two.is)) (c.lay_one_of.ensures.too_long long)

pub lay_cell-first_choice-dir-requires : goal.lay_cell-first_choice-dir-requires
unfolding cell_doc
lay_cell-first_choice-dir-requires g t c =
    choice_more g.P.Paper.holds (cell_as c.args.laid.now c.args.k (get_some c.args.k c.deref.ensures.value c.in-Some.ensures.lookup.0 c.in-Some.ensures.lookup.1) c.in-Three.is) c.requires

pub lay_cell-returns-in_err-choice-in-Three-clause-too_long : goal.lay_cell-returns-in_err-choice-in-Three-clause-too_long
unfolding cell_doc
lay_cell-returns-in_err-choice-in-Three-clause-too_long g t c long =
    choice_past g.P.Paper.holds c.args.spot (cell_as c.args.laid.now c.args.k (get_some c.args.k c.deref.ensures.value c.in-Some.ensures.lookup.0 c.in-Some.ensures.lookup.1) c.in-Three.is)
    c.first_choice-dir.ensures (c.in_err-choice-in-Three.ensures.too_long (refused c.from_residual-in_err-choice-in-Three.result c.from_residual-in_err-choice-in-Three.ensures.1 long))

pub lay_cell-lay_layout-requires-in-Left : goal.lay_cell-lay_layout-requires-in-Left
unfolding cell_doc
lay_cell-lay_layout-requires-in-Left g t c κs within =
    let there = get_some c.args.k c.deref.ensures.value c.in-Some.ensures.lookup.0 c.in-Some.ensures.lookup.1 in
    let is = cell_as c.args.laid.now c.args.k there c.in-Three.is in
    (omega (arith, c.decreases), (within, (there, ((charges c.args.laid.now c.args.k there c.in-Three.is).0, may_go (left_on g.P.Paper.holds is c.first_choice-dir.ensures c.in-Left.is c.in_ok-choice-in-Three.ensures.counted) c.requires))))

pub lay_cell-returns-in-Left-clause-laid : goal.lay_cell-returns-in-Left-clause-laid
unfolding cell_doc
lay_cell-returns-in-Left-clause-laid g t c =
    IfOk-weaker c.lay_layout-in-Left.result _ _ (λ left. are_laid (left_on g.P.Paper.holds (cell_as c.args.laid.now c.args.k (get_some c.args.k c.deref.ensures.value c.in-Some.ensures.lookup.0 c.in-Some.ensures.lookup.1) c.in-Three.is)
    c.first_choice-dir.ensures c.in-Left.is c.in_ok-choice-in-Three.ensures.counted))
    c.lay_layout-in-Left.ensures.laid

pub lay_cell-returns-in-Left-clause-too_long : goal.lay_cell-returns-in-Left-clause-too_long
unfolding cell_doc
lay_cell-returns-in-Left-clause-too_long g t c long =
    past_from (left_on g.P.Paper.holds (cell_as c.args.laid.now c.args.k (get_some c.args.k c.deref.ensures.value c.in-Some.ensures.lookup.0 c.in-Some.ensures.lookup.1) c.in-Three.is)
    c.first_choice-dir.ensures c.in-Left.is c.in_ok-choice-in-Three.ensures.counted)
    (c.lay_layout-in-Left.ensures.too_long long)

pub lay_cell-lay_one_of-requires-in-Right : goal.lay_cell-lay_one_of-requires-in-Right
unfolding cell_doc
lay_cell-lay_one_of-requires-in-Right g t c κs within =
    let there = get_some c.args.k c.deref.ensures.value c.in-Some.ensures.lookup.0 c.in-Some.ensures.lookup.1 in
    let is = cell_as c.args.laid.now c.args.k there c.in-Three.is in
    (omega (arith, c.decreases), (within, (there, ((charges c.args.laid.now c.args.k there c.in-Three.is).1, may_go (right_on g.P.Paper.holds is c.first_choice-dir.ensures c.in-Right.is c.in_ok-choice-in-Three.ensures.counted) c.requires))))

pub lay_cell-returns-in-Right-clause-laid : goal.lay_cell-returns-in-Right-clause-laid
unfolding cell_doc
lay_cell-returns-in-Right-clause-laid g t c =
    IfOk-weaker c.lay_one_of-in-Right.result _ _ (λ left. are_laid (right_on g.P.Paper.holds (cell_as c.args.laid.now c.args.k (get_some c.args.k c.deref.ensures.value c.in-Some.ensures.lookup.0 c.in-Some.ensures.lookup.1) c.in-Three.is)
    c.first_choice-dir.ensures c.in-Right.is c.in_ok-choice-in-Three.ensures.counted))
    c.lay_one_of-in-Right.ensures.laid

pub lay_cell-returns-in-Right-clause-too_long : goal.lay_cell-returns-in-Right-clause-too_long
unfolding cell_doc
lay_cell-returns-in-Right-clause-too_long g t c long =
    past_from (right_on g.P.Paper.holds (cell_as c.args.laid.now c.args.k (get_some c.args.k c.deref.ensures.value c.in-Some.ensures.lookup.0 c.in-Some.ensures.lookup.1) c.in-Three.is)
    c.first_choice-dir.ensures c.in-Right.is c.in_ok-choice-in-Three.ensures.counted)
    (c.lay_one_of-in-Right.ensures.too_long long)

-- a list that isn't made
pub lay_cell-lay_line-requires-clause-line : goal.lay_cell-lay_line-requires-clause-line
lay_cell-lay_line-requires-clause-line g t c =
    let rows = c.args.laid.now.rows.now in
    line_at rows.cells.items rows.turns.items c.args.k c.in-Some.cell.now c.in-Unmade.unmade c.args.laid.now.rows.now.stand.lines (get_some c.args.k c.deref.ensures.value c.in-Some.ensures.lookup.0 c.in-Some.ensures.lookup.1) c.in-Unmade.is

pub lay_cell-lay_line-requires-clause-next : goal.lay_cell-lay_line-requires-clause-next
lay_cell-lay_line-requires-clause-next g t c =
    let rows = c.args.laid.now.rows.now in
    let there = get_some c.args.k c.deref.ensures.value c.in-Some.ensures.lookup.0 c.in-Some.ensures.lookup.1 in
    may_go (go_as g.P.Paper.holds (unmade_is rows.pieces.items rows.cells.items c.args.k c.in-Some.cell.now c.in-Unmade.unmade c.args.laid.now.rows.now.stand.cells there c.in-Unmade.is)) c.requires

pub lay_cell-returns-in-Unmade-clause-laid : goal.lay_cell-returns-in-Unmade-clause-laid
lay_cell-returns-in-Unmade-clause-laid g t c =
    let rows = c.args.laid.now.rows.now in
    let there = get_some c.args.k c.deref.ensures.value c.in-Some.ensures.lookup.0 c.in-Some.ensures.lookup.1 in
    IfOk-weaker c.lay_line.result _ _ (λ left. are_laid (go_as g.P.Paper.holds (unmade_is rows.pieces.items rows.cells.items c.args.k c.in-Some.cell.now c.in-Unmade.unmade c.args.laid.now.rows.now.stand.cells there c.in-Unmade.is))) c.lay_line.ensures.laid

pub lay_cell-returns-in-Unmade-clause-too_long : goal.lay_cell-returns-in-Unmade-clause-too_long
lay_cell-returns-in-Unmade-clause-too_long g t c long =
    let rows = c.args.laid.now.rows.now in
    let there = get_some c.args.k c.deref.ensures.value c.in-Some.ensures.lookup.0 c.in-Some.ensures.lookup.1 in
    past_from (go_as g.P.Paper.holds (unmade_is rows.pieces.items rows.cells.items c.args.k c.in-Some.cell.now c.in-Unmade.unmade c.args.laid.now.rows.now.stand.cells there c.in-Unmade.is)) (c.lay_line.ensures.too_long long)

pub lay_cell-returns-in-Unmade-clause-made : goal.lay_cell-returns-in-Unmade-clause-made
lay_cell-returns-in-Unmade-clause-made g t c untold made =
    never_made c.args.laid.now.rows.now.cells.items c.args.k c.in-Some.cell.now c.in-Unmade.unmade made (get_some c.args.k c.deref.ensures.value c.in-Some.ensures.lookup.0 c.in-Some.ensures.lookup.1) c.in-Unmade.is
