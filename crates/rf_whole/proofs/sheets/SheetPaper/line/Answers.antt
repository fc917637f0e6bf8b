-- The line stands behind the older characters.
use Rattle.std.proofs.Common.{ℕ, ◌+◌, ◌++◌, sym, subst}
use Rattle.std.specs.Str.{chars}
use Rattle.std.proofs.lemmas.Result.{err_from_is_err_and}
use Rattle.rf_render.proofs.Writing.{chars_pushed}
use Rattle.rf_whole.specs.Sheets.{IsWidest}
use Rattle.rf_whole.proofs.Writing.{kept_line, widest_line}
use Rattle.rf_whole.proofs.sheets.SheetPaper.line.Goals as goal

pub line-requires-clause-held : goal.line-requires-clause-held
line-requires-clause-held g c = let held = c.requires.held in (held.0.tally, held.1, held.2, (held.3.0, held.3.1.counts))

pub returns-in_err-line-clause-too_long : goal.returns-in_err-line-clause-too_long
returns-in_err-line-clause-too_long g c = λ long blank pieces weight held.
    let p = err_from_is_err_and c.from_residual.result c.from_residual.ensures.1 in
    c.in_err-line.ensures.too_long (cc) blank.tally pieces weight (held.0, held.1.counts)

pub returns-clause-put : goal.returns-clause-put
returns-clause-put g c = λ blank pieces weight held line is.
    let gains = c.in_ok-line.ensures.put blank.tally pieces weight (held.0, held.1.counts) line is in (
      gains.0,
      kept_line _ _ _ (chars c.args.s.now) _ _ _ pieces line _ held.1.text_is gains.1 is.text_is
          (chars_pushed c.args.self.now.text c.push_word.new.text c.args.s.now c.in_ok-push_word.ensures)
          (subst (λ (n : ℕ). IsWidest n (pieces ++ line)) (sym c.greater-self.ensures)
          (widest_line c.args.self.now.widest c.column.result pieces line held.1.widest_is is.alone is.runs
          (c.column.ensures blank.tally (pieces ++ line) (weight + c.args.words) gains))),
    )

pub returns-clause-fits : goal.returns-clause-fits
returns-clause-fits g c = λ blank pieces weight held. c.in_ok-line.ensures.fits blank.tally pieces weight (held.0, held.1.counts)
