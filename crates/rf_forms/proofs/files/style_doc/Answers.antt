-- The slot's document stands alone on its rows.
use Rattle.std.proofs.lemmas.Result.{IfOk-weaker}
use Rattle.rf_base_file.specs.FileDocument.{style_doc}
use Rattle.rf_style.specs.StyleOf.{seen}
use Rattle.rf_row_graph.proofs.Alone.{stands_alone, one_piece}
use Rattle.rf_forms.proofs.files.style_doc.Goals as goal

pub add_rows-requires-clause-alone : goal.add_rows-requires-clause-alone
add_rows-requires-clause-alone c =
    let t = c.requires.top in
    let rows = c.slot_rows.new.rows in
    let d = style_doc (seen c.args.style.now) t.0 t.2 in
    one_piece rows d (stands_alone c.new-rows.result rows d c.new-rows.ensures.empty (λ f. c.in_ok-slot_rows.ensures.put t.0 t.1 t.2 f t.3 t.4))

pub returns-clause-document : goal.returns-clause-document
returns-clause-document c =
    let rows = c.slot_rows.new.rows in
    IfOk-weaker c.add_rows.result _ _
    (λ id stands ts trees s holds slot.
    let d = style_doc (seen c.args.style.now) ts s in
    stands d (stands_alone c.new-rows.result rows d c.new-rows.ensures.empty (λ f. c.in_ok-slot_rows.ensures.put ts trees s f holds slot)))
    c.add_rows.ensures.document
