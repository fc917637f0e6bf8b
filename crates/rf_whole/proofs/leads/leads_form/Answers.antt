-- The slot's document has one layout, and is laid out as its comments are.
use Rattle.std.proofs.Common.{◌∙◌, Err, ap}
use Rattle.rf_base_file.specs.FileDocument.{style_doc}
use Rattle.rf_style.specs.StyleOf.{seen}
use Rattle.rf_whole.proofs.CommentForms.{slot_settles}
use Rattle.rf_whole.proofs.Formed.{width_is_column}
use Rattle.rf_whole.proofs.Settled.{settled_long}
use Rattle.rf_whole.proofs.TooLong.{walked_long, told_long}
use Rattle.rf_whole.proofs.leads.leads_form.Goals as goal

pub write_leads-requires-clause-picked : goal.write_leads-requires-clause-picked
write_leads-requires-clause-picked g c ts trees s holds stands =
    let style = seen c.args.task.now.style.now in
    let comments = c.is_comments.ensures in
    let yes = c.if-not-is_comments.false in
    let h = slot_settles style ts c.args.task.now.tree.now c.args.slot.now s (comments.leads yes) stands (comments.comments yes ts trees s holds stands) in
    (h.one.whole, (style_doc style ts s, h.one.picked, h.one.rendered))

pub returns-in_err-written-clause-too_long : goal.returns-in_err-written-clause-too_long
returns-in_err-written-clause-too_long g c is ts trees s holds stands =
    let style = seen c.args.task.now.style.now in
    let limit = c.args.task.now.limit in
    let d = style_doc style ts s in
    let comments = c.is_comments.ensures in
    let yes = c.if-not-is_comments.false in
    let h = slot_settles style ts c.args.task.now.tree.now c.args.slot.now s (comments.leads yes) stands (comments.comments yes ts trees s holds stands) in
    let long = walked_long c.in_err-written.field-0.0 (told_long _ _ c.from_residual.ensures.1 is) in
    settled_long (g.F.Factory.costs c.args.task.now.factory.now) limit d (g.met.F.Factory.lawful c.args.task.now.factory.now) (width_is_column limit c.args.task.now.width) h.document h.choiceless h.one
    (c.write_leads.ensures.too_long (c.in_err-written.was ∙ ap Err long) ts trees s holds stands d h.one.picked)

pub returns-clause-form : goal.returns-clause-form
returns-clause-form g c is ts trees s holds stands =
    let style = seen c.args.task.now.style.now in
    let d = style_doc style ts s in
    let comments = c.is_comments.ensures in
    let yes = c.if-not-is_comments.false in
    let h = slot_settles style ts c.args.task.now.tree.now c.args.slot.now s (comments.leads yes) stands (comments.comments yes ts trees s holds stands) in
    c.put_settled.ensures d h.document h.choiceless h.layout ((rw c.in-Some.is at c.in_ok-written.ensures.written) ts trees s holds stands d h.one.picked)
