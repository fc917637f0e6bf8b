-- The text is its one resolution.
use Rattle.std.proofs.Common.{◌≡◌, ◌∙◌, Err, ap, subst}
use Rattle.std.specs.Str.{chars}
use Rattle.rf_base_document.specs.Document.{Doc, Text as a_text, IsDocument}
use Rattle.rf_rows.specs.Choiceless.{IsChoiceless}
use Rattle.rf_row_graph.proofs.Alone.{one_alone}
use Rattle.rf_whole.specs.Forms.{IsLongForm}
use Rattle.rf_whole.specs.Laid.{IsFormOf}
use Rattle.rf_whole.proofs.Formed.{width_is_column}
use Rattle.rf_whole.proofs.Settled.{single, settled_long}
use Rattle.rf_whole.proofs.TooLong.{walked_long, told_long}
use Rattle.rf_whole.proofs.rows.text_form.Goals as goal

pub returns-in_err-written-clause-too_long : goal.returns-in_err-written-clause-too_long
unfolding IsDocument IsChoiceless
returns-in_err-written-clause-too_long g c is d alone =
    let costs = g.F.Factory.costs c.args.task.now.factory.now in
    let limit = c.args.task.now.limit in
    let root : Doc = a_text (chars c.in-Some.s.now) c.in-Some.len in
    let same : root ≡ d = one_alone c.args.laid.now.rows.now root d c.in-Some.ensures.alone alone in
    let long = walked_long c.in_err-written.field-0.0 (told_long _ _ c.from_residual.ensures.1 is) in
    subst (λ (e : Doc). IsLongForm costs limit e) same
    (settled_long costs limit root (g.met.F.Factory.lawful c.args.task.now.factory.now) (width_is_column limit c.args.task.now.width) c.in-Some.ensures.limits tt (single root tt (c.requires.layout root c.in-Some.ensures.alone))
    (c.write_text.ensures.too_long (c.in_err-written.was ∙ ap Err long)))

pub returns-clause-form : goal.returns-clause-form
unfolding IsDocument IsChoiceless
returns-clause-form g c is d alone =
    let root : Doc = a_text (chars c.in-Some.s.now) c.in-Some.len in
    let same : root ≡ d = one_alone c.args.laid.now.rows.now root d c.in-Some.ensures.alone alone in
    subst (λ (e : Doc). IsFormOf (g.F.Factory.costs c.args.task.now.factory.now) c.args.task.now.limit e c.put_settled.new.form) same
    (c.put_settled.ensures root c.in-Some.ensures.limits tt (c.requires.layout root c.in-Some.ensures.alone) c.in_ok-written.ensures.written)
