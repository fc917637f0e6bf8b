-- A row is made of its pieces and of the row in it.
use Rattle.std.proofs.Common.{Some, ap, sym, subst, ◌∙◌, length, arith}
use Rattle.std.proofs.lemmas.Result.{IfOk-weaker}
use Rattle.rf_base_document.specs.Document.{Doc}
use Rattle.rf_base_document.specs.Graph.{StandsFor}
use Rattle.rf_rows.specs.Layouts.{row_doc}
use Rattle.rf_row_graph.specs.Parts.{inner_nodes}
use Rattle.rf_row_graph.proofs.Standing.{parts_kept}
use Rattle.rf_row_graph.proofs.RowNodes.{inner_stands, no_inner_stands, inner_many, row_as, row_fits}
use Rattle.rf_row_graph.proofs.strips.+rows.Goals as goal

pub add_inner-returns-in_default-clause-document : goal.add_inner-returns-in_default-clause-document
add_inner-returns-in_default-clause-document t c docs stand =
    no_inner_stands c.args.graph.now (row_doc c.args.cell.now.marks (length c.args.cell.now.pieces.now) docs) c.args.inner c.in_default.is

pub add_inner-returns-in_ok-align-in-Aligned-clause-document : goal.add_inner-returns-in_ok-align-in-Aligned-clause-document
add_inner-returns-in_ok-align-in-Aligned-clause-document t c docs stand =
    inner_stands c.align.new.self (row_doc c.args.cell.now.marks (length c.args.cell.now.pieces.now) docs) c.args.inner _ c.in_ok-align-in-Aligned.field-0.0 (c.in-Some.is ∙ ap Some c.in-Aligned.is)
    (c.in_ok-align-in-Aligned.ensures.document _ (c.in_ok-id-in-Aligned.ensures.document docs stand))

pub add_inner-returns-in_ok-nest-in-Nested-clause-document : goal.add_inner-returns-in_ok-nest-in-Nested-clause-document
add_inner-returns-in_ok-nest-in-Nested-clause-document t c docs stand =
    inner_stands c.nest.new.self (row_doc c.args.cell.now.marks (length c.args.cell.now.pieces.now) docs) c.args.inner _ c.in_ok-nest-in-Nested.field-0.0 (c.in-Some.is ∙ ap Some c.in-Nested.is)
    (c.in_ok-nest-in-Nested.ensures.document _ (c.in_ok-id-in-Nested.ensures.document docs stand))

pub add_row-add_strip-requires-clause-cell : goal.add_row-add_strip-requires-clause-cell
add_row-add_strip-requires-clause-cell t c =
    (c.requires.docs, parts_kept c.args.graph.now c.add_inner.new.graph c.args.cell.now.shared c.args.cell.now.pieces.now c.requires.docs c.in_ok-inner.ensures.older c.requires.stand)

pub add_row-add_strip-requires-clause-inner : goal.add_row-add_strip-requires-clause-inner
add_row-add_strip-requires-clause-inner t c = (_, c.in_ok-inner.ensures.document c.requires.docs c.requires.stand)

pub add_row-returns-clause-document : goal.add_row-returns-clause-document
add_row-returns-clause-document t c =
    IfOk-weaker c.add_strip.result _ _
    (λ id over docs stand.
    subst (λ (d : Doc). StandsFor c.add_strip.new.graph id.0 d) (sym (row_as c.args.cell.now.marks (length c.args.cell.now.pieces.now) docs c.args.row c.strip-strip.result c.strip-strip.ensures))
    (over docs _ (parts_kept c.args.graph.now c.add_inner.new.graph c.args.cell.now.shared c.args.cell.now.pieces.now docs c.in_ok-inner.ensures.older stand) (c.in_ok-inner.ensures.document docs stand)))
    c.add_strip.ensures.document

pub add_row-returns-clause-grown : goal.add_row-returns-clause-grown
add_row-returns-clause-grown t c =
    let m = c.args.cell.now.marks in
    let count = length c.args.cell.now.pieces.now in
    let n = length (inner_nodes c.in_ok-inner.inner) in
    let one = inner_many c.add_inner.new.graph (row_doc m count c.requires.docs) c.strip-strip.result.inner c.in_ok-inner.inner (c.in_ok-inner.ensures.document c.requires.docs c.requires.stand) in
    omega (arith, c.add_inner.ensures.grown, c.add_strip.ensures.grown, row_fits m count n c.args.row c.strip-strip.result c.requires.marks c.strip-strip.ensures one)
