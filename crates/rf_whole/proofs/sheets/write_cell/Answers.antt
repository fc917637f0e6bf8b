-- The sheet has the whole layout, counted by the factory that was given.
use Rattle.std.proofs.Common.{◌∙◌, subst}
use Rattle.rf_whole.specs.Written.{IsWritten}
use Rattle.rf_whole.proofs.sheets.write_cell.Goals as goal

pub returns-then-branch-clause-written : goal.returns-then-branch-clause-written
returns-then-branch-clause-written g c = λ e picks.
    let laid = c.in_ok-lay_out_cell.ensures.laid c.if-branch.true e picks in
    subst (λ f. IsWritten (g.F.Factory.costs f) e c.args.choices.now c.written.result) (laid.2.0 ∙ c.blank-sheet.ensures.factory)
    (c.written.ensures e c.args.choices.now (laid.0, laid.1, laid.2.1))
