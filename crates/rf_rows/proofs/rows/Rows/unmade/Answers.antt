-- The node has one document, of which the line was written.
use Rattle.std.proofs.Common.{false, sym, subst, ap, Ok}
use Rattle.rf_base_document.specs.Document.{Doc}
use Rattle.rf_ways.proofs.NodeTrees.{node_document}
use Rattle.rf_lines.specs.Written.{IsLineOf as IsPageOf}
use Rattle.rf_rows.proofs.rows.Rows.unmade.Goals as goal

pub put_line-requires-clause-line : goal.put_line-requires-clause-line
put_line-requires-clause-line c =
    let t = c.requires.node in
    subst (λ (d : Doc). IsPageOf false c.write_placed.new.page d) (sym (node_document c.args.placed.now t.0 t.1 t.2 t.3 t.4))
    (c.in_ok-write_placed.ensures.line (ap Ok c.if-not-branch.false) t.0 t.1 t.2 t.3 t.4)
