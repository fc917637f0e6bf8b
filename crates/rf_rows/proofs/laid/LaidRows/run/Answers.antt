-- No piece is no text, and one is itself.
use Rattle.std.proofs.Common.{◌∙◌, sym, ap, Some, arith}
use Rattle.std.specs.Option.{option_map}
use Rattle.rf_lines.proofs.Between.{some_at}
use Rattle.rf_rows.specs.Cells.{piece_doc, cell_at}
use Rattle.rf_rows.specs.Nodes.{run_docs}
use Rattle.rf_rows.proofs.Slices.{get_mapped}
use Rattle.rf_rows.proofs.Opened.{seq_none, seq_one}
use Rattle.rf_rows.proofs.Splits.{slice_alone}
use Rattle.rf_rows.proofs.laid.LaidRows.run.Goals as goal

pub returns-in-0 : goal.returns-in-0
returns-in-0 c =
    let rows = c.args.self.now.rows.now in
    record {
      document = seq_none (run_docs rows.pieces.items rows.cells.items c.args.fill) c.args.from c.args.to c.requires.order c.in-0.is;
      sequence = λ less. absurd (omega (arith, less, c.in-0.is));
    }

pub returns-in-1 : goal.returns-in-1
returns-in-1 c =
    let rows = c.args.self.now.rows.now in
    let p = some_at rows.pieces.items c.args.from (omega (arith, c.requires.within, c.in-1.is)) in
    let f = piece_doc (cell_at rows.pieces.items rows.cells.items) c.args.fill in
    let docs = run_docs rows.pieces.items rows.cells.items c.args.fill in
    let first = get_mapped f rows.pieces.items c.args.from ∙ ap (option_map f) p.1 ∙ ap (λ d. Some d) (sym (c.piece.ensures.document p.0 p.1)) in
    record {
      document = seq_one docs c.args.from c.args.to _ c.in-1.is first;
      sequence = λ less. c.piece.ensures.sequence ∙ slice_alone docs c.args.from c.args.to _ c.in-1.is first;
    }
