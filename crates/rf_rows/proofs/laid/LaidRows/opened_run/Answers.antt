-- The pieces are their halves in a row, where there are two.
use Rattle.std.proofs.Common.{◌<◌, ◌+◌, ◌∙◌, ◌⊎◌, sym, ap, length, arith, inl, inr}
use Rattle.std.proofs.lemmas.List.{length-map}
use Rattle.rf_base_document.specs.Document.{Text}
use Rattle.rf_doc.proofs.Sequence.{half_up_is}
use Rattle.rf_rows.proofs.Empty.{no_chars}
use Rattle.rf_rows.proofs.Opened.{range_halves, range_past}
use Rattle.rf_rows.specs.Cells.{piece_doc, cell_at}
use Rattle.rf_rows.specs.Nodes.{run_docs}
use Rattle.rf_rows.proofs.laid.LaidRows.opened_run.Goals as goal
use Rattle.rf_rows.proofs.laid.LaidRows.opened_run.Goals.{then-to-len-via-then-to-len, then-to-len-via-else-to-len+then-to-lt2, then-to-len-via-else-to-len+else-to-lt2+then-from-to}

pub returns : goal.returns
returns c =
    let rows = c.args.self.now.rows.now in
    let docs = run_docs rows.pieces.items rows.cells.items c.args.fill in
    let count = length-map rows.pieces.items (piece_doc (cell_at rows.pieces.items rows.cells.items) c.args.fill) in
    range_halves docs c.args.from c.args.to c.div_ceil.result _ _ c.if-from-to.false c.if-to-lt2.false (omega (arith, c.if-to-len.false, c.len.ensures, count)) (half_up_is _ _ c.div_ceil.ensures) c.run.ensures.document c.run-2.ensures.document

pub returns-then-to-len : goal.returns-then-to-len
returns-then-to-len c =
    let rows = c.args.self.now.rows.now in
    let docs = run_docs rows.pieces.items rows.cells.items c.args.fill in
    let count = length-map rows.pieces.items (piece_doc (cell_at rows.pieces.items rows.cells.items) c.args.fill) in
    let past : (c.args.to < c.args.from + 2) ⊎ (length docs < c.args.to) =
    elim c.then-to-len.branch [
      | then-to-len-via-then-to-len w ↦ inr (omega (arith, w.if-to-len.true, c.len.ensures, count))
      | then-to-len-via-else-to-len+then-to-lt2 w ↦ inl (omega (arith, w.if-to-lt2.true))
      | then-to-len-via-else-to-len+else-to-lt2+then-from-to w ↦ inl (omega (arith, w.if-from-to.true, w.if-to-lt2.false))
    ] in
    range_past docs c.args.from c.args.to past ∙ ap (λ s. Text s 0) (sym no_chars)
