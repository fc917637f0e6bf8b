-- By its document or not, the form is the slot's.
use Rattle.std.proofs.Common.{Ok, ap}
use Rattle.std.proofs.lemmas.Result.{on_ok_weaker}
use Rattle.rf_whole.proofs.forms.lay_form.Goals as goal

pub returns-then-branch-2-clause-form : goal.returns-then-branch-2-clause-form
returns-then-branch-2-clause-form g c ts trees s holds stands document = c.in_ok-leads_form.ensures.form (ap Ok c.if-branch-2.true) ts trees s holds stands

pub returns-clause-form : goal.returns-clause-form
returns-clause-form g c = on_ok_weaker c.document_form.result (λ made ts trees s holds stands document. made ts trees s holds stands) c.document_form.ensures.form
