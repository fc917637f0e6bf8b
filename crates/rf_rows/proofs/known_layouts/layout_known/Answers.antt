-- A charge is known, and no charge changes nothing.
use Rattle.std.proofs.Common.{◌≡◌, ◌==◌, ap, Bool, true, false, if◌then◌else◌, arith}
use Rattle.std.proofs.lemmas.Bool.Decides.{nat_tests}
use Rattle.rf_base_document.specs.Document.{Charge}
use Rattle.rf_rows.specs.Layouts.{unpaid_doc, layout_doc}
use Rattle.rf_rows.specs.Nodes.{row_of}
use Rattle.rf_rows.proofs.Learning.{known_of}
use Rattle.rf_rows.proofs.known_layouts.layout_known.Goals as goal

pub returns-then-layout-gt0 : goal.returns-then-layout-gt0
returns-then-layout-gt0 c = λ ways ps cs k stand known.
    let e = c.args.cell.now in
    let d = unpaid_doc e.marks e.count (row_of ps cs e) c.args.layout in
    let paid : (c.args.layout.charge == 0) ≡ false = grind (arith, nat_tests, c.if-layout-gt0.true) in
    known_of ways (layout_doc e.marks e.count (row_of ps cs e) c.args.layout) (Charge c.args.layout.charge d) c.charged.result (ap (λ (b : Bool). if b then d else Charge c.args.layout.charge d) paid)
    (c.charged.ensures ways d (c.unpaid_known-unpaid.ensures ways ps cs k stand known))

pub returns-else-layout-gt0 : goal.returns-else-layout-gt0
returns-else-layout-gt0 c = λ ways ps cs k stand known.
    let e = c.args.cell.now in
    let d = unpaid_doc e.marks e.count (row_of ps cs e) c.args.layout in
    let free : (c.args.layout.charge == 0) ≡ true = grind (arith, nat_tests, c.if-layout-gt0.false) in
    known_of ways (layout_doc e.marks e.count (row_of ps cs e) c.args.layout) d c.unpaid_known-unpaid.result (ap (λ (b : Bool). if b then d else Charge c.args.layout.charge d) free)
    (c.unpaid_known-unpaid.ensures ways ps cs k stand known)
