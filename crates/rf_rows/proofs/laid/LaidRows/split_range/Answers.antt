-- The first of the documents of a row, and the others.
use Rattle.std.proofs.Common.{◌<◌, ◌+◌, ◌⊎◌, refl, length, arith, inl, inr}
use Rattle.rf_rows.specs.Nodes.{docs_of}
use Rattle.rf_rows.proofs.Splits.{range_splits, no_split}
use Rattle.rf_rows.proofs.laid.LaidRows.split_range.Goals as goal
use Rattle.rf_rows.proofs.laid.LaidRows.split_range.Goals.{then-to-end-via-then-to-end, then-to-end-via-else-to-end+then-to-lt2, then-to-end-via-else-to-end+else-to-lt2+then-from-to}

pub returns : goal.returns
returns c =
    let rows = c.args.self.now.rows.now in
    range_splits (docs_of rows.pieces.items rows.cells.items c.args.cell.now c.args.row) c.args.from c.args.to _ _ _ c.if-from-to.false c.if-to-lt2.false (omega (arith, c.if-to-end.false, c.end-end.ensures)) refl c.range.ensures.document
    (c.range-2.ensures.sequence (omega (arith, c.if-from-to.false, c.if-to-lt2.false)))

pub returns-then-to-end : goal.returns-then-to-end
returns-then-to-end c =
    let rows = c.args.self.now.rows.now in
    let docs = docs_of rows.pieces.items rows.cells.items c.args.cell.now c.args.row in
    let past : (c.args.to < c.args.from + 2) ⊎ (length docs < c.args.to) =
    elim c.then-to-end.branch [
      | then-to-end-via-then-to-end w ↦ inr (omega (arith, w.if-to-end.true, c.end-end.ensures))
      | then-to-end-via-else-to-end+then-to-lt2 w ↦ inl (omega (arith, w.if-to-lt2.true))
      | then-to-end-via-else-to-end+else-to-lt2+then-from-to w ↦ inl (omega (arith, w.if-from-to.true, w.if-to-lt2.false))
    ] in
    no_split docs c.args.from c.args.to past
