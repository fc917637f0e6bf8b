-- The document that stands alone is the root's.
use Rattle.std.proofs.lemmas.Result.{on_ok_weaker}
use Rattle.rf_row_graph.proofs.Alone.{one_piece}
use Rattle.rf_whole.proofs.forms.core_form.Goals as goal

pub add_rows-requires-clause-alone : goal.add_rows-requires-clause-alone
add_rows-requires-clause-alone g c = one_piece c.args.rows.now c.requires.document.0 c.requires.document.1

pub plain_form-requires-clause-document : goal.plain_form-requires-clause-document
plain_form-requires-clause-document g c =
    let t = c.requires.document in
    (t.0, c.in_ok-root.ensures.document t.0 t.1, t.2)

pub returns-clause-form : goal.returns-clause-form
returns-clause-form g c = on_ok_weaker c.plain_form.result (λ made d alone. made d (c.in_ok-root.ensures.document d alone)) c.plain_form.ensures.form
