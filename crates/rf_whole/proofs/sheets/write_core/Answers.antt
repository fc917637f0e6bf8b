-- The sheet has the whole layout, counted by the factory that was given.
use Rattle.std.proofs.Common.{◌∙◌, subst}
use Rattle.rf_whole.specs.Written.{IsWritten}
use Rattle.rf_whole.proofs.sheets.write_core.Goals as goal

pub returns-clause-written : goal.returns-clause-written
returns-clause-written g c = λ d e stands picks.
    let laid = c.in_ok-lay_out.ensures.laid d e stands picks in
    subst (λ f. IsWritten (g.F.Factory.costs f) e c.args.choices.now c.written.result) (laid.2.0 ∙ c.blank-sheet.ensures.factory)
    (c.written.ensures e c.args.choices.now (laid.0, laid.1, laid.2.1))
