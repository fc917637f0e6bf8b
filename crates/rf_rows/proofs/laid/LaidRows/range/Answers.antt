-- Documents of the first and of the last part are pieces in a row, and between them one is the other row.
use Rattle.std.proofs.Common.{◌∙◌, ◌+◌, ◌<◌, ◌≤◌, ◌^◌, ℕ, length, ap, ap₂, sym, arith}
use Rattle.rf_base_document.specs.Sequence.{seq}
use Rattle.rf_rows.specs.declared.nodes.Node.TheVariants.{Range}
use Rattle.rf_rows.specs.Nodes.{docs_of, inner_length, node_doc, node_docs}
use Rattle.rf_rows.proofs.Opened.{cell_few, seq_one, inner_at, range_node}
use Rattle.rf_rows.proofs.Runs.{head_of_row, tail_of_row, row_ends, few_between, some_between}
use Rattle.rf_rows.proofs.Splits.{docs_here, slice_alone, cell_docs, inner_alone}
use Rattle.rf_rows.proofs.laid.LaidRows.range.Goals as goal

pub before_tail-before-requires : goal.before_tail-before-requires
before_tail-before-requires c =
    let rows = c.args.self.now.rows.now in
    let few : length rows.pieces.items < 2 ^ 63 = omega (arith, rows.pieces.small, rows.pieces.ok) in
    (c.args.cell.now.count, cell_few rows.pieces.items rows.cells.items c.args.k c.args.cell.now c.args.self.now.rows.now.stand.cells c.requires.cell few, c.requires.stands)

pub returns-then-to-head : goal.returns-then-to-head
returns-then-to-head c =
    let rows = c.args.self.now.rows.now in
    let docs = sym (head_of_row rows.pieces.items rows.cells.items c.args.k c.args.cell.now c.args.row c.args.strip.now c.args.from c.args.to c.args.self.now.rows.now.stand.cells c.requires.cell c.requires.strip c.requires.order c.if-to-head.true) in
    record {
      document = c.run.ensures.document ∙ ap seq docs;
      sequence = λ less. c.run.ensures.sequence (omega (arith, less)) ∙ docs;
    }

pub returns-then-from-before : goal.returns-then-from-before
returns-then-from-before c =
    let rows = c.args.self.now.rows.now in
    let docs = sym (tail_of_row rows.pieces.items rows.cells.items c.args.k c.args.cell.now c.args.row c.args.strip.now c.before_tail-before.result c.args.from c.args.to c.args.self.now.rows.now.stand.cells c.requires.cell c.requires.strip c.before_tail-before.ensures c.if-from-before.true c.requires.order c.requires.within) in
    record {
      document = c.run-then-from-before.ensures.document ∙ ap seq docs;
      sequence = λ less. c.run-then-from-before.ensures.sequence (omega (arith, less, c.if-from-before.true)) ∙ docs;
    }

pub run-requires-then-from-before-clause-within : goal.run-requires-then-from-before-clause-within
run-requires-then-from-before-clause-within c =
    let rows = c.args.self.now.rows.now in
    row_ends rows.pieces.items rows.cells.items c.args.k c.args.cell.now c.args.row c.args.strip.now c.before_tail-before.result c.args.to c.args.self.now.rows.now.stand.cells c.requires.cell c.requires.strip c.before_tail-before.ensures c.requires.within (omega (arith, c.if-from-before.true, c.requires.order))

pub returns-then-to-from-eq1 : goal.returns-then-to-from-eq1
returns-then-to-from-eq1 c =
    let rows = c.args.self.now.rows.now in
    let s = c.args.strip.now in
    let one = few_between s.inner in
    let some : 0 < inner_length s.inner = omega (arith, c.before_tail-before.ensures, c.if-from-before.false, c.if-to-head.false, c.if-to-from-eq1.true, c.requires.order) in
    let inner = some_between s.inner some in
    let docs = docs_of rows.pieces.items rows.cells.items c.args.cell.now c.args.row in
    let first =
    inner_at rows.pieces.items rows.cells.items c.args.k c.args.cell.now c.args.row s c.args.from inner.0 c.node_between.result c.args.self.now.rows.now.stand.cells c.requires.cell c.requires.strip inner.1
    (omega (arith, one, c.before_tail-before.ensures, c.if-from-before.false, c.if-to-head.false, c.if-to-from-eq1.true, c.requires.order)) (c.node_between.ensures inner.0 inner.1) in
    record {
      document = seq_one docs c.args.from c.args.to _ c.if-to-from-eq1.true first;
      sequence = λ less. inner_alone rows.pieces.items rows.cells.items c.args.k inner.0 c.node_between.result (c.node_between.ensures inner.0 inner.1) ∙ slice_alone docs c.args.from c.args.to _ c.if-to-from-eq1.true first;
    }

pub returns-else-to-from-eq1 : goal.returns-else-to-from-eq1
returns-else-to-from-eq1 c =
    let rows = c.args.self.now.rows.now in
    let one = few_between c.args.strip.now.inner in
    let some : c.args.from + 2 ≤ c.args.to = omega (arith, one, c.before_tail-before.ensures, c.if-from-before.false, c.if-to-head.false, c.if-to-from-eq1.false, c.requires.order) in
    record {
      document = ap₂ (λ (a b : ℕ). node_doc rows.pieces.items rows.cells.items (Range c.args.k c.args.row a b)) c.narrow.ensures c.narrow-else-to-from-eq1.ensures
          ∙ range_node rows.pieces.items rows.cells.items c.args.k c.args.cell.now c.args.row c.args.from c.args.to c.requires.cell some c.requires.within;
      sequence = λ less. ap₂ (λ (a b : ℕ). node_docs rows.pieces.items rows.cells.items (Range c.args.k c.args.row a b)) c.narrow.ensures c.narrow-else-to-from-eq1.ensures
          ∙ cell_docs rows.pieces.items rows.cells.items c.args.k c.args.cell.now c.args.row c.args.from c.args.to c.requires.cell
          ∙ docs_here (docs_of rows.pieces.items rows.cells.items c.args.cell.now c.args.row) c.args.from c.args.to some c.requires.within;
    }
