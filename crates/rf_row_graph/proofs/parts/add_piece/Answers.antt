-- A text is short, and a cell stands before.
use Rattle.std.proofs.Common.{length, subst}
use Rattle.rf_rows.specs.declared.pieces.Piece.{Piece}
use Rattle.rf_rows.specs.Cells.{IsBelow}
use Rattle.rf_row_graph.proofs.Cells.{done_found}
use Rattle.rf_row_graph.proofs.parts.add_piece.Goals as goal

pub sized-requires-clause-short : goal.sized-requires-clause-short
sized-requires-clause-short c =
    let text = subst (λ (p : Piece). IsBelow (length c.args.done.now) p) c.in-Text.is c.requires.below in text.1

pub returns-in-Cell-clause-document : goal.returns-in-Cell-clause-document
returns-in-Cell-clause-document c f fill all =
    done_found c.args.graph.now f c.args.done.now c.in-Cell.k (record { 0 = 0 }) c.args.piece fill c.in-Cell.is c.requires.below all
