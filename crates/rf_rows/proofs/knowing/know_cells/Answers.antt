-- A turn adds what is known of one cell.
use Rattle.std.proofs.Common.{List, length, ap, ◌∙◌}
use Rattle.rf_frontier.proofs.Ways.{keeps_same, keeps_then}
use Rattle.rf_outline.proofs.Holds.{some_kept, one_longer}
use Rattle.rf_rows.specs.declared.known.KnownCell.{KnownCell}
use Rattle.rf_rows.proofs.Learning.{cells_kept, no_cells_known, one_cell_more}
use Rattle.rf_rows.proofs.knowing.know_cells.Goals as goal

pub returns-in_err-reserve-clause-older : goal.returns-in_err-reserve-clause-older
returns-in_err-reserve-clause-older c = keeps_same c.args.hows.now

pub loop-k-init : goal.loop-k-init
loop-k-init c =
    let rows = c.args.laid.now.rows.now in
    record {
      before = ap (λ (l : List KnownCell). length l) (c.in_ok-reserve.ensures.items ∙ c.clear.ensures.items);
      known = no_cells_known c.args.hows.now rows.pieces.items rows.cells.items c.reserve.new.self.items (c.in_ok-reserve.ensures.items ∙ c.clear.ensures.items);
      older = keeps_same c.args.hows.now;
      some = c.requires;
    }

pub returns-in_err-cell-clause-older : goal.returns-in_err-cell-clause-older
returns-in_err-cell-clause-older c = keeps_then c.args.hows.now c.loop-k.hows _ c.loop-k.invariant.older c.know.ensures.older

pub returns-in_err-push-clause-older : goal.returns-in_err-push-clause-older
returns-in_err-push-clause-older c = keeps_then c.args.hows.now c.loop-k.hows _ c.loop-k.invariant.older c.know.ensures.older

pub loop-k-preserved : goal.loop-k-preserved
loop-k-preserved c =
    let rows = c.args.laid.now.rows.now in
    record {
      before = one_longer c.loop-k.known.items c.push.new.self.items c.loop-k.k c.in_ok-cell.cell c.in_ok-push.ensures.items c.loop-k.invariant.before;
      known = one_cell_more _ rows.pieces.items rows.cells.items c.loop-k.known.items c.push.new.self.items c.loop-k.k c.in_ok-cell.cell c.in_ok-push.ensures.items c.loop-k.invariant.before
          (cells_kept c.loop-k.hows _ rows.pieces.items rows.cells.items c.loop-k.known.items c.in_ok-cell.ensures.older c.loop-k.invariant.known) c.in_ok-cell.ensures.known;
      older = keeps_then c.args.hows.now c.loop-k.hows _ c.loop-k.invariant.older c.know.ensures.older;
      some = some_kept c.loop-k.hows _ c.know.ensures.older c.loop-k.invariant.some;
    }
