-- The stack is laid out piece by piece.
use Rattle.std.proofs.Common.{◌≡◌, ◌<◌, ◌+◌, ◌-◌, ◌++◌, ◌∷◌, ℕ, List, [], length, Some, slice_get, slice_index_or, ap, sym, subst, ◌∙◌, refl, arith}
use Rattle.std.specs.List.{slice_range}
use Rattle.std.specs.Option.{option_map}
use Rattle.std.proofs.lemmas.List.{length-map, take_all}
use Rattle.std.proofs.lemmas.Option.{slice_get-get_or}
use Rattle.rf_base_document.specs.declared.directions.Dir.{Dir}
use Rattle.rf_base_document.specs.Document.{Doc}
use Rattle.rf_base_document.specs.Render as render
use Rattle.rf_walk.specs.Walked.{CanGoOn}
use Rattle.rf_rows.specs.declared.laid.LaidRows.{LaidRows}
use Rattle.rf_rows.specs.declared.laying.Spot.{Spot}
use Rattle.rf_rows.specs.declared.pieces.Fill.{Fill}
use Rattle.rf_rows.specs.declared.pieces.Piece.{Piece}
use Rattle.rf_rows.specs.declared.pieces.Piece.TheVariants.{Text, Space, Newline, Hard, BareBreak, Gap, Cell}
use Rattle.rf_rows.specs.Cells.{piece_doc, IsBelow}
use Rattle.rf_rows.specs.Laid.{laid_cell}
use Rattle.rf_rows.specs.Laying.{framed, frames_of}
use Rattle.rf_rows.specs.Rows.{stacked}
use Rattle.rf_rows.proofs.Frames.{same, GoesOn, may_go, past_from, are_laid, then_laid, and_on, next_of, pieces_end}
use Rattle.rf_rows.proofs.Limits.{All-found}
use Rattle.rf_rows.proofs.Slices.{get_mapped}
use Rattle.rf_rows.proofs.Turns.{same_err}
use Rattle.rf_rows.proofs.laying.lay_out_stack.Goals as goal

-- a piece that is no cell keeps the limits where no cell stands
leaf_below : (k : ℕ) (p : Piece) → ((j : ℕ) → p ≡ Cell j → ⊥) → IsBelow k p → IsBelow 0 p
leaf_below k (Cell j) leaf h = absurd (leaf j refl)
leaf_below k _ leaf h = h

-- a piece of the stack, as a loop reads it
piece_at : (items shown : List Piece) (i : ℕ) (other : Piece) → shown ≡ items → i < length shown →
    slice_get items i ≡ Some (slice_index_or shown i other)
piece_at items shown i other is less =
    subst (λ (l : List Piece). slice_get l i ≡ Some (slice_index_or shown i other)) is (slice_get-get_or shown i other less)

-- the next piece, as a loop reads it, goes on where those before it were laid out
piece_on : {P : Type 0} (holds : P → P → List render.Piece → ℕ → Type 0) {old paper : P} (laid : LaidRows) (fill : Fill)
    {spot : Spot} {cs : List Dir} (i : ℕ) {shown : List Piece} (other : Piece) → shown ≡ laid.rows.now.stack.items →
    i < length shown →
    GoesOn holds old paper (frames_of spot (stacked laid.rows.now fill)) cs (λ o. o)
    (frames_of spot (slice_range (stacked laid.rows.now fill) i (length laid.rows.now.stack.items))) cs →
    GoesOn holds old paper (frames_of spot (stacked laid.rows.now fill)) cs
    (λ o. o ++ frames_of spot (slice_range (stacked laid.rows.now fill) (i + 1) (length laid.rows.now.stack.items)))
    (framed spot (piece_doc (laid_cell laid) fill (slice_index_or shown i other)) ∷ []) cs
piece_on holds laid fill i {shown} other is less start =
    let items = laid.rows.now.stack.items in
    let told = piece_doc (laid_cell laid) fill in
    let within : i < length items = omega (arith, less, ap (λ (l : List Piece). length l) is) in
    and_on start (next_of holds (stacked laid.rows.now fill) within (get_mapped told items i ∙ ap (option_map told) (piece_at items shown i other is less)))

-- what a loop reads past the end
abbrev nothing : Piece
nothing = Text 0 (record { ref_ptr = (0, 0); now = [] })

-- all of the stack
all_of : (laid : LaidRows) (fill : Fill) →
    stacked laid.rows.now fill ≡ slice_range (stacked laid.rows.now fill) 0 (length laid.rows.now.stack.items)
all_of laid fill =
    let docs = stacked laid.rows.now fill in
    let items = laid.rows.now.stack.items in
    sym (take_all (length items - 0) docs (omega (arith, length-map items (piece_doc (laid_cell laid) fill))))

pub loop-piece-init : goal.loop-piece-init
loop-piece-init g c = record {
  laid = record {
    on = λ blank others end can.
        subst (λ (l : List Doc). CanGoOn (g.P.Paper.holds blank c.args.paper.now) same (others ++ frames_of c.args.spot l) c.args.choices.now end)
        (all_of c.args.laid.now c.args.fill) can;
  };
}

pub lay_leaf-requires : goal.lay_leaf-requires
lay_leaf-requires g c =
    let laid = c.args.laid.now in
    let i = c.loop-piece.piece-index in
    let there = piece_at laid.rows.now.stack.items _ i nothing c.as_slice-piece-items.ensures.value c.loop-piece-test.true in
    record {
      leaf = leaf_below _ _ c.in_default.not-Cell (All-found (IsBelow (length laid.rows.now.cells.items)) laid.rows.now.stack.items i _ laid.rows.now.stand.stack there);
      next = may_go (piece_on g.P.Paper.holds laid c.args.fill i nothing c.as_slice-piece-items.ensures.value c.loop-piece-test.true c.loop-piece.invariant.laid) c.requires;
    }

pub returns-in_err-lay_leaf-clause-too_long : goal.returns-in_err-lay_leaf-clause-too_long
returns-in_err-lay_leaf-clause-too_long g c long =
    past_from (piece_on g.P.Paper.holds c.args.laid.now c.args.fill c.loop-piece.piece-index nothing c.as_slice-piece-items.ensures.value c.loop-piece-test.true c.loop-piece.invariant.laid)
    (c.in_err-lay_leaf.ensures.too_long (same_err c.from_residual.ensures.1 long))

pub loop-piece-preserved : goal.loop-piece-preserved
loop-piece-preserved g c = record {
  laid = then_laid (piece_on g.P.Paper.holds c.args.laid.now c.args.fill c.loop-piece.piece-index nothing c.as_slice-piece-items.ensures.value c.loop-piece-test.true c.loop-piece.invariant.laid)
      c.in_ok-lay_leaf.ensures.laid;
}

pub returns-clause-laid : goal.returns-clause-laid
returns-clause-laid g c is =
    let rows = c.args.laid.now.rows.now in
    are_laid c.loop-piece.invariant.laid
    (pieces_end g.P.Paper.holds c.loop-piece.paper c.args.spot (stacked rows c.args.fill) c.loop-piece.piece-index (length rows.stack.items) c.args.choices.now
    (omega (arith, c.loop-piece.auto.piece-index-end, c.loop-piece-test.false, ap (λ (l : List Piece). length l) c.as_slice-piece-items.ensures.value)))
