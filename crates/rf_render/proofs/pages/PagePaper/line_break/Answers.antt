-- The break stands behind the older characters.
use Rattle.std.proofs.lemmas.Result.{err_from_is_err_and}
use Rattle.rf_base_document.specs.Render.{Break}
use Rattle.rf_render.proofs.Writing.{wrote}
use Rattle.rf_render.proofs.pages.PagePaper.line_break.Goals as goal

pub returns-in_err-line_break-clause-too_long : goal.returns-in_err-line_break-clause-too_long
returns-in_err-line_break-clause-too_long c = λ long blank pieces weight shows.
    let p = err_from_is_err_and c.from_residual.result c.from_residual.ensures.1 in
    c.in_err-line_break.ensures.too_long (cc) c.args.self.now.extent pieces weight shows.covers

pub returns-clause-put : goal.returns-clause-put
returns-clause-put c = λ blank. wrote c.args.self.now _ (λ column. Break c.args.indentation) 1 (c.in_ok-line_break.ensures.put c.args.self.now.extent)
    (λ column. c.in_ok-push_break.ensures)
