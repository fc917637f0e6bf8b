-- The line stands behind the older characters.
use Rattle.std.specs.Str.{chars}
use Rattle.std.proofs.lemmas.Result.{err_from_is_err_and}
use Rattle.rf_render.proofs.Writing.{chars_pushed, wrote_line}
use Rattle.rf_render.proofs.pages.PagePaper.line.Goals as goal

pub returns-in_err-line-clause-too_long : goal.returns-in_err-line-clause-too_long
returns-in_err-line-clause-too_long c = λ long blank pieces weight shows.
    let p = err_from_is_err_and c.from_residual.result c.from_residual.ensures.1 in
    c.in_err-line.ensures.too_long (cc) c.args.self.now.extent pieces weight shows.covers

pub returns-clause-put : goal.returns-clause-put
returns-clause-put c = λ blank pieces weight shows line is.
    wrote_line c.args.self.now _ (chars c.args.s.now) pieces line weight _ shows (c.in_ok-line.ensures.put c.args.self.now.extent pieces weight shows.covers line is) is.text_is
    (chars_pushed c.args.self.now.text c.push_str.new.self _ c.in_ok-push_str.ensures.bytes)

pub returns-clause-fits : goal.returns-clause-fits
returns-clause-fits c = λ blank pieces weight shows. c.in_ok-line.ensures.fits c.args.self.now.extent pieces weight shows.covers
