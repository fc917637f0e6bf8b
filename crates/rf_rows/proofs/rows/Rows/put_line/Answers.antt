-- The line on the page is that of the node's document, and its choices are kept behind the others.
use Rattle.std.proofs.Common.{◌≡◌, true, false, length, sym, subst, ◌∙◌, rules}
use Rattle.std.proofs.lemmas.List.{length-map}
use Rattle.rf_base_document.specs.Document.{Doc, IsDocument}
use Rattle.rf_ways.specs.NodeDocuments.{node_doc}
use Rattle.rf_ways.proofs.NodeTrees.{node_limits}
use Rattle.rf_rows.specs.declared.unmade.ListLine.{ListLine}
use Rattle.rf_rows.specs.Cells.{piece_doc, cell_at}
use Rattle.rf_rows.specs.Rows.{stacked}
use Rattle.rf_rows.specs.Unmade.{IsLineOf, list_doc}
use Rattle.rf_rows.proofs.Stacks.{on_ok}
use Rattle.rf_rows.proofs.Stands.{turned}
use Rattle.rf_rows.proofs.UnmadeLines.{kept_unmade, written_so, unmade_put}
use Rattle.rf_rows.proofs.rows.Rows.put_line.Goals as goal

pub invariant_of-self : goal.invariant_of-self
invariant_of-self c = record { stand = turned _ _ _ _ _ c.keep_turns.ensures.kept.0 _ c.args.self.now.stand c.keep_turns.ensures.kept.1 }

pub put_cell-requires-clause-layouts : goal.put_cell-requires-clause-layouts
put_cell-requires-clause-layouts c =
    subst (λ (l : ListLine). IsDocument (list_doc l)) (sym c.in_ok-unmade.ensures.unmade.line_is) (node_limits c.args.placed.now c.requires.rules)

pub put_cell-requires-clause-line : goal.put_cell-requires-clause-line
put_cell-requires-clause-line c =
    let page = c.args.self.now.page in
    let line : ListLine = record { placed = c.args.placed.now; text = c.text.result; columns = c.columns.result; words = c.words.result } in
    let d : Doc = node_doc c.args.placed.now in
    let is : IsLineOf line c.choices.result.now c.flat_choices.result.now = record {
      document = node_limits c.args.placed.now c.requires.rules;
      flattenable = c.requires.line.flattenable;
      loose_is = written_so d false line c.choices.result.now page.line c.requires.line.line c.columns.ensures c.choices.ensures c.text.ensures c.words.ensures;
      flat_is = written_so d true line c.flat_choices.result.now _ c.requires.line.flat_line c.columns.ensures c.flat_choices.ensures c.text.ensures c.words.ensures;
    } in
    kept_unmade c.args.self.now.turns.items c.keep_turns.new.turns.items line c.choices.result.now c.flat_choices.result.now c.in_ok-unmade.unmade c.in_ok-unmade.ensures.unmade is

pub returns-clause-put : goal.returns-clause-put
returns-clause-put c =
    let all : c.len-height.result ≡ length c.args.self.now.stack.items = search rules in
    on_ok c.put_cell.result _ _
    (λ put. record {
      free = put.free;
      docs = λ fill.
          unmade_put (stacked c.args.self.now fill) _ c.len-height.result _ _ _ c.in_ok-unmade.unmade _
          (all ∙ sym (length-map c.args.self.now.stack.items (piece_doc (cell_at c.args.self.now.pieces.items c.args.self.now.cells.items) fill)))
          c.in_ok-unmade.ensures.unmade.line_is (put.docs fill);
    })
    c.put_cell.ensures.put
