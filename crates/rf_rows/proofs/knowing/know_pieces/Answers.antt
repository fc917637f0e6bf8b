-- A turn adds one piece to the lines.
use Rattle.std.proofs.Common.{◌≡◌, ◌<◌, ◌+◌, ◌∙◌, ℕ, List, [], length, true, false, take, Some, slice_get, refl, sym, ap, subst, arith}
use Rattle.std.proofs.lemmas.Option.{slice_get-get_or}
use Rattle.rf_frontier.proofs.Ways.{keeps_same, keeps_then}
use Rattle.rf_outline.proofs.Holds.{some_kept}
use Rattle.rf_rows.specs.declared.pieces.Piece.{Piece}
use Rattle.rf_rows.specs.declared.pieces.Piece.TheVariants.{Gap}
use Rattle.rf_rows.specs.Cells.{pieces_of, cell_at}
use Rattle.rf_rows.specs.Knowing.{chain, spaced}
use Rattle.rf_rows.proofs.Learning.{cells_kept, no_piece, all_gathered, line_of_texts, one_piece_more, gaps_before, gap_there, all_pieces}
use Rattle.rf_rows.proofs.Opened.{stands_at, count_of}
use Rattle.rf_rows.proofs.knowing.know_pieces.Goals as goal

pub loop-i-init : goal.loop-i-init
loop-i-init c =
    record {
      lines =
          all_gathered c.args.hows.now _ _ refl (no_piece c.args.hows.now false c.first.result c.first.ensures.in_ways c.first.ensures.choices)
          (no_piece c.args.hows.now true c.first.result c.first.ensures.in_ways c.first.ensures.choices);
      before = λ j less is. absurd (omega (arith, less));
      there = λ j e. absurd (omega (arith, e));
      older = keeps_same c.args.hows.now;
      some = c.requires.some;
    }

pub with_piece-requires-clause-cells : goal.with_piece-requires-clause-cells
with_piece-requires-clause-cells c =
    let rows = c.args.laid.now.rows.now in
    cells_kept _ _ rows.pieces.items rows.cells.items c.args.list.now c.loop-i.invariant.older c.requires.known

pub returns-in_err-gathered-clause-older : goal.returns-in_err-gathered-clause-older
returns-in_err-gathered-clause-older c = keeps_then c.args.hows.now c.loop-i.hows _ c.loop-i.invariant.older c.with_piece.ensures.older

pub loop-i-preserved : goal.loop-i-preserved
loop-i-preserved c =
    let rows = c.args.laid.now.rows.now in
    let g = cell_at rows.pieces.items rows.cells.items in
    let qs = pieces_of rows.pieces.items c.args.cell.now in
    let here = ap (λ (l : List Piece). slice_get l c.loop-i.i) (sym c.pieces_of-piece-items.ensures) ∙ slice_get-get_or c.pieces_of-piece-items.result.now c.loop-i.i _ c.loop-i-test.true in
    let lines = c.in_ok-gathered.ensures.lines (chain (spaced g (take c.loop-i.i qs))) c.loop-i.invariant.lines in
    let gaps = c.up_to_gap-gaps.ensures in
    record {
      lines = one_piece_more _ g qs c.loop-i.i _ _ here lines;
      before = subst (λ (n : ℕ). (j : ℕ) → j < c.loop-i.i + 1 → slice_get qs j ≡ Some Gap → j < n) (sym gaps) (gaps_before qs c.loop-i.i c.loop-i.gaps _ here c.loop-i.invariant.before);
      there = subst (λ (n : ℕ). (j : ℕ) → n ≡ j + 1 → slice_get qs j ≡ Some Gap) (sym gaps) (gap_there qs c.loop-i.i c.loop-i.gaps _ here c.loop-i.invariant.there);
      older = keeps_then c.args.hows.now c.loop-i.hows _ c.loop-i.invariant.older c.in_ok-gathered.ensures.older;
      some = some_kept _ _ c.in_ok-gathered.ensures.older c.loop-i.invariant.some;
    }

pub returns-clause-known : goal.returns-clause-known
returns-clause-known c =
    let rows = c.args.laid.now.rows.now in
    let stand = stands_at rows.pieces.items rows.cells.items c.args.k c.args.cell.now c.args.laid.now.rows.now.stand.cells c.requires.cell in
    let count = ap (λ (l : List Piece). length l) c.pieces_of-piece-items.ensures ∙ count_of rows.pieces.items c.args.k c.args.cell.now stand in
    let lines = c.loop-i.invariant.lines in
    all_pieces c.loop-i.hows rows.pieces.items rows.cells.items c.args.k c.args.cell.now c.loop-i.i _ stand (omega (arith, c.loop-i-test.false, c.loop-i.auto.i-end, count))
    (line_of_texts _ lines.first _ _ false _ _ (lines.passes false) (c.with_text.ensures c.loop-i.hows []) lines.loose)
    (line_of_texts _ lines.first _ _ true _ _ (lines.passes true) (c.with_text-2.ensures c.loop-i.hows []) lines.flat)
    c.loop-i.invariant.before c.loop-i.invariant.there
