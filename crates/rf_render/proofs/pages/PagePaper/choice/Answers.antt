-- A choice changes the extent alone.
use Rattle.std.proofs.lemmas.Result.{err_from_is_err_and}
use Rattle.rf_render.proofs.pages.PagePaper.choice.Goals as goal

pub returns-clause-counted : goal.returns-clause-counted
returns-clause-counted c = λ blank pieces weight shows. record {
  text = shows.text;
  covers = c.in_ok-choice.ensures.counted c.args.self.now.extent pieces weight shows.covers;
}

pub returns-in_err-choice-clause-too_long : goal.returns-in_err-choice-clause-too_long
returns-in_err-choice-clause-too_long c = λ long blank pieces weight shows.
    let p = err_from_is_err_and c.from_residual.result c.from_residual.ensures.1 in
    c.in_err-choice.ensures.too_long (cc) c.args.self.now.extent pieces weight shows.covers
