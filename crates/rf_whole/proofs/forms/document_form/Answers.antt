-- The slot's document stands alone on its rows, in which all lists are made the second time.
use Rattle.std.proofs.Common.{Ok, ap}
use Rattle.std.proofs.lemmas.Result.{on_ok_weaker}
use Rattle.rf_base_document.specs.Document.{Doc}
use Rattle.rf_base_file.specs.FileDocument.{style_doc}
use Rattle.rf_base_file.proofs.Layouts.{slot_has_layout}
use Rattle.rf_style.specs.StyleOf.{seen}
use Rattle.rf_whole.proofs.forms.document_form.Goals as goal

pub returns-then-branch-clause-form : goal.returns-then-branch-clause-form
returns-then-branch-clause-form g c = c.in_ok-searched_form.ensures.form (ap Ok c.if-branch.true)

pub returns-then-branch-2-clause-form : goal.returns-then-branch-2-clause-form
returns-then-branch-2-clause-form g c = c.in_ok-searched_form-2.ensures.form (ap Ok c.if-branch-2.true)

pub core_form-requires-clause-document : goal.core_form-requires-clause-document
core_form-requires-clause-document g c =
    let t = c.requires.top in
    let style = seen c.args.task.now.style.now in
    (style_doc style t.0 t.2, c.in_ok-searched_form-2.ensures.alone t.0 t.1 t.2 t.3 t.4, slot_has_layout style t.0 t.2)

pub returns-clause-form : goal.returns-clause-form
returns-clause-form g c =
    on_ok_weaker c.core_form.result
    (λ made ts trees s holds stands.
    let slot : Doc = style_doc (seen c.args.task.now.style.now) ts s in
    made slot (c.in_ok-searched_form-2.ensures.alone ts trees s holds stands))
    c.core_form.ensures.form

pub returns-clause-too_long : goal.returns-clause-too_long
returns-clause-too_long g c is ts trees s holds stands =
    c.core_form.ensures.too_long is (style_doc (seen c.args.task.now.style.now) ts s) (c.in_ok-searched_form-2.ensures.alone ts trees s holds stands)
