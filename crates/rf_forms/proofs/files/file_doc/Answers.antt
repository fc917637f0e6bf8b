-- The file's document stands alone on its rows.
use Rattle.std.proofs.lemmas.Result.{IfOk-weaker}
use Rattle.rf_base_file.specs.FileDocument.{file_doc}
use Rattle.rf_style.specs.StyleOf.{seen}
use Rattle.rf_row_graph.proofs.Alone.{stands_alone, one_piece}
use Rattle.rf_forms.proofs.files.file_doc.Goals as goal

pub add_rows-requires-clause-alone : goal.add_rows-requires-clause-alone
add_rows-requires-clause-alone c =
    let t = c.requires.tree in
    let rows = c.file_rows.new.rows in
    let d = file_doc (seen c.args.style.now) t.0 t.1 in
    one_piece rows d (stands_alone c.new-rows.result rows d c.new-rows.ensures.empty (c.in_ok-file_rows.ensures.put t.0 t.1 t.2).docs)

pub returns-clause-document : goal.returns-clause-document
returns-clause-document c =
    let rows = c.file_rows.new.rows in
    IfOk-weaker c.add_rows.result _ _
    (λ id stands ts trees holds.
    let d = file_doc (seen c.args.style.now) ts trees in
    stands d (stands_alone c.new-rows.result rows d c.new-rows.ensures.empty (c.in_ok-file_rows.ensures.put ts trees holds).docs))
    c.add_rows.ensures.document
