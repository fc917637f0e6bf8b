-- The first of several pieces, and the others.
use Rattle.std.proofs.Common.{◌<◌, ◌+◌, ◌⊎◌, refl, length, arith, inl, inr}
use Rattle.std.proofs.lemmas.List.{length-map}
use Rattle.rf_rows.specs.Cells.{piece_doc, cell_at}
use Rattle.rf_rows.specs.Nodes.{run_docs}
use Rattle.rf_rows.proofs.Splits.{range_splits, no_split}
use Rattle.rf_rows.proofs.laid.LaidRows.split_run.Goals as goal
use Rattle.rf_rows.proofs.laid.LaidRows.split_run.Goals.{then-to-len-via-then-to-len, then-to-len-via-else-to-len+then-to-lt2, then-to-len-via-else-to-len+else-to-lt2+then-from-to}

pub returns : goal.returns
returns c =
    let rows = c.args.self.now.rows.now in
    let docs = run_docs rows.pieces.items rows.cells.items c.args.fill in
    let count = length-map rows.pieces.items (piece_doc (cell_at rows.pieces.items rows.cells.items) c.args.fill) in
    range_splits docs c.args.from c.args.to _ _ _ c.if-from-to.false c.if-to-lt2.false (omega (arith, c.if-to-len.false, c.len.ensures, count)) refl c.run.ensures.document
    (c.run-2.ensures.sequence (omega (arith, c.if-from-to.false, c.if-to-lt2.false)))

pub returns-then-to-len : goal.returns-then-to-len
returns-then-to-len c =
    let rows = c.args.self.now.rows.now in
    let docs = run_docs rows.pieces.items rows.cells.items c.args.fill in
    let count = length-map rows.pieces.items (piece_doc (cell_at rows.pieces.items rows.cells.items) c.args.fill) in
    let past : (c.args.to < c.args.from + 2) ⊎ (length docs < c.args.to) =
    elim c.then-to-len.branch [
      | then-to-len-via-then-to-len w ↦ inr (omega (arith, w.if-to-len.true, c.len.ensures, count))
      | then-to-len-via-else-to-len+then-to-lt2 w ↦ inl (omega (arith, w.if-to-lt2.true))
      | then-to-len-via-else-to-len+else-to-lt2+then-from-to w ↦ inl (omega (arith, w.if-from-to.true, w.if-to-lt2.false))
    ] in
    no_split docs c.args.from c.args.to past
