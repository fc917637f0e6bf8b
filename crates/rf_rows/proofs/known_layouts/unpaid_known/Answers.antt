-- A row is aligned, and flat or not.
use Rattle.std.proofs.Common.{ap, Bool}
use Rattle.rf_base_document.specs.Document.{Align, Flatten}
use Rattle.rf_rows.specs.Layouts.{row_doc, unpaid_doc, flattened}
use Rattle.rf_rows.specs.Nodes.{row_of}
use Rattle.rf_rows.proofs.Learning.{known_of}
use Rattle.rf_rows.proofs.known_layouts.unpaid_known.Goals as goal

pub returns-then-layout : goal.returns-then-layout
returns-then-layout c = λ ways ps cs k stand known.
    let e = c.args.cell.now in
    let d = row_doc e.marks e.count (row_of ps cs e) c.args.layout.row in
    known_of ways (unpaid_doc e.marks e.count (row_of ps cs e) c.args.layout) (Flatten (Align d)) c.flattened.result (ap (λ (b : Bool). flattened b (Align d)) c.if-layout.true)
    (c.flattened.ensures ways (Align d) (c.aligned-row.ensures ways d (c.row_known.ensures ways ps cs k stand known)))

pub returns-else-layout : goal.returns-else-layout
returns-else-layout c = λ ways ps cs k stand known.
    let e = c.args.cell.now in
    let d = row_doc e.marks e.count (row_of ps cs e) c.args.layout.row in
    known_of ways (unpaid_doc e.marks e.count (row_of ps cs e) c.args.layout) (Align d) c.aligned-row.result (ap (λ (b : Bool). flattened b (Align d)) c.if-layout.false)
    (c.aligned-row.ensures ways d (c.row_known.ensures ways ps cs k stand known))
