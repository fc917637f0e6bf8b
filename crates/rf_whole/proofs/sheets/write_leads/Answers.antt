-- The sheet has the whole layout, counted by the task's factory.
use Rattle.std.proofs.Common.{[], Ok, ◌∙◌, ap, subst}
use Rattle.rf_whole.specs.Written.{IsWritten}
use Rattle.rf_whole.proofs.sheets.write_leads.Goals as goal

pub returns-then-branch-clause-written : goal.returns-then-branch-clause-written
returns-then-branch-clause-written g c = λ ts trees s holds stands e picks.
    let laid = c.in_ok-lay_leads.ensures.laid (ap Ok c.if-branch.true) ts trees s holds stands e picks in
    subst (λ f. IsWritten (g.F.Factory.costs f) e [] c.written.result) (laid.2.0 ∙ c.blank-sheet.ensures.factory)
    (c.written.ensures e [] (laid.0, laid.1, laid.2.1))
