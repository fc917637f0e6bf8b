-- The tally of the whole layout, by the factory that was given.
use Rattle.std.proofs.Common.{◌∙◌, subst}
use Rattle.rf_measure.specs.Measured.{IsMeasured}
use Rattle.rf_measure.proofs.Ends.{measured}
use Rattle.rf_measure.proofs.measuring.measure.Goals as goal

pub returns-clause-measured : goal.returns-clause-measured
returns-clause-measured g c = λ d e stands picks.
    let laid = c.in_ok-lay_out.ensures.laid d e stands picks in
    let tally = c.lay_out.new.paper in
    subst (λ f. IsMeasured (g.F.Factory.costs f) e c.args.choices.now tally.cost c.column.result) (laid.2.0 ∙ c.none-tally.ensures.factory)
    (measured (g.F.Factory.costs tally.factory.now) (g.met.F.Factory.lawful tally.factory.now) e c.args.choices.now tally.cost tally.extent c.column.result
    (λ pieces weight counts. c.column.ensures c.none-tally.result pieces weight (laid.2.0, counts)) (laid.0, laid.1, laid.2.1))
