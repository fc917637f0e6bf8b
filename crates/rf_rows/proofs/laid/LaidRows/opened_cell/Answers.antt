-- A cell is what its layouts are.
use Rattle.std.proofs.Common.{subst, sym}
use Rattle.rf_outline.specs.Documents.{IsOpened}
use Rattle.rf_base_document.specs.Document.{Doc}
use Rattle.rf_rows.specs.Nodes.{node_doc}
use Rattle.rf_rows.proofs.Opened.{bare_is, two_is, three_is}
use Rattle.rf_rows.proofs.laid.LaidRows.opened_cell.Goals as goal
use Rattle.rf_rows.proofs.Learning.{one_layout}

pub returns-in-Bare : goal.returns-in-Bare
returns-in-Bare c =
    let rows = c.args.self.now.rows.now in
    subst (λ (d : Doc). IsOpened (node_doc rows.pieces.items rows.cells.items) d c.opened_range.result) (bare_is rows.pieces.items rows.cells.items c.args.k c.args.cell.now c.end-end.result c.args.self.now.rows.now.stand.cells c.requires c.in-Bare.is c.end-end.ensures) c.opened_range.ensures

pub returns-in-One : goal.returns-in-One
returns-in-One c =
    let rows = c.args.self.now.rows.now in
    subst (λ (d : Doc). IsOpened (node_doc rows.pieces.items rows.cells.items) d c.opened_layout.result) (sym (one_layout rows.pieces.items rows.cells.items c.args.k c.args.cell.now c.in-One.layout c.args.self.now.rows.now.stand.cells c.requires c.in-One.is)) c.opened_layout.ensures

pub returns-in-Two : goal.returns-in-Two
returns-in-Two c =
    let rows = c.args.self.now.rows.now in
    two_is rows.pieces.items rows.cells.items c.args.k c.args.cell.now c.in-Two.field-0 c.in-Two.field-1 c.args.self.now.rows.now.stand.cells c.requires c.in-Two.is

pub returns-in-Three : goal.returns-in-Three
returns-in-Three c =
    let rows = c.args.self.now.rows.now in
    three_is rows.pieces.items rows.cells.items c.args.k c.args.cell.now c.in-Three.field-0 c.in-Three.field-1 c.in-Three.field-2 c.args.self.now.rows.now.stand.cells c.requires c.in-Three.is
