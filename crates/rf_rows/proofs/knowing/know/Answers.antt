-- What is known of the pieces of the cell and of its layouts is known of the cell.
use Rattle.std.proofs.Common.{true, sym, ◌∙◌, subst}
use Rattle.std.proofs.lemmas.Option.{same_Some}
use Rattle.rf_frontier.proofs.Ways.{keeps_then}
use Rattle.rf_outline.specs.Known.{LineHolds}
use Rattle.rf_outline.proofs.Holds.{line_kept, some_kept}
use Rattle.rf_rows.specs.declared.cells.Cell.{Cell}
use Rattle.rf_rows.specs.Cells.{cell_at, pieces_of}
use Rattle.rf_rows.specs.Knowing.{chain, spaced}
use Rattle.rf_rows.proofs.knowing.know.Goals as goal

pub returns-in_err-document-clause-older : goal.returns-in_err-document-clause-older
returns-in_err-document-clause-older c = keeps_then c.args.hows.now _ _ c.know_pieces.ensures.older c.cell_known.ensures.older

pub returns-clause-known : goal.returns-clause-known
returns-clause-known c =
    let rows = c.args.laid.now.rows.now in
    record {
      document = c.in_ok-document.ensures.known;
      line = λ e is.
          subst (λ (x : Cell). LineHolds c.cell_known.new.hows (chain (spaced (cell_at rows.pieces.items rows.cells.items) (pieces_of rows.pieces.items x))) true c.in_ok-pieces.pieces.flat) (same_Some _ _ (sym c.cell-cell.ensures ∙ is))
          (line_kept _ _ _ true _ c.cell_known.ensures.older c.in_ok-pieces.ensures.known.flat);
    }

pub returns-clause-older : goal.returns-clause-older
returns-clause-older c = keeps_then c.args.hows.now _ _ c.know_pieces.ensures.older c.cell_known.ensures.older

pub cell_known-requires-clause-some : goal.cell_known-requires-clause-some
cell_known-requires-clause-some c = some_kept c.args.hows.now c.know_pieces.new.hows c.know_pieces.ensures.older c.requires.some
