-- A choice changes the extent alone.
use Rattle.std.proofs.lemmas.Result.{err_from_is_err_and}
use Rattle.rf_measure.proofs.tallies.TallyPaper.choice.Goals as goal

pub returns-clause-counted : goal.returns-clause-counted
returns-clause-counted g c = λ blank pieces weight held. (
  held.0,
  record {
    cost_is = held.1.cost_is;
    counted = held.1.counted;
    covers = c.in_ok-choice.ensures.counted c.args.self.now.extent pieces weight held.1.covers;
  },
)

pub returns-in_err-choice-clause-too_long : goal.returns-in_err-choice-clause-too_long
returns-in_err-choice-clause-too_long g c = λ long blank pieces weight held.
    let p = err_from_is_err_and c.from_residual.result c.from_residual.ensures.1 in
    c.in_err-choice.ensures.too_long (cc) c.args.self.now.extent pieces weight held.1.covers
