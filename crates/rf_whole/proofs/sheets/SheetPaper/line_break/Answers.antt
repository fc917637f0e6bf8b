-- The break stands behind the older characters.
use Rattle.std.proofs.Common.{ℕ, sym, subst}
use Rattle.std.proofs.lemmas.Result.{err_from_is_err_and}
use Rattle.rf_base_document.specs.Render.{Break}
use Rattle.rf_walk.specs.Papers.{with_piece}
use Rattle.rf_whole.specs.Sheets.{IsWidest}
use Rattle.rf_whole.proofs.Writing.{kept_more, widest_break}
use Rattle.rf_whole.proofs.sheets.SheetPaper.line_break.Goals as goal

pub line_break-requires : goal.line_break-requires
line_break-requires g c = let held = c.requires in (held.0.tally, held.1, held.2, (held.3.0, held.3.1.counts))

pub returns-in_err-line_break-clause-too_long : goal.returns-in_err-line_break-clause-too_long
returns-in_err-line_break-clause-too_long g c = λ long blank pieces weight held.
    let p = err_from_is_err_and c.from_residual.result c.from_residual.ensures.1 in
    c.in_err-line_break.ensures.too_long (cc) blank.tally pieces weight (held.0, held.1.counts)

pub returns-clause-put : goal.returns-clause-put
returns-clause-put g c = λ blank pieces weight held.
    let gains = c.in_ok-line_break.ensures.put blank.tally pieces weight (held.0, held.1.counts) in (
      gains.0,
      kept_more _ _ _ _ _ _ (λ column. Break c.args.indentation) pieces _ held.1.text_is gains.1 c.in_ok-push_break.ensures
          (subst (λ (n : ℕ). IsWidest n (with_piece pieces (λ column. Break c.args.indentation))) (sym c.greater-self.ensures)
          (widest_break c.args.self.now.widest c.args.indentation pieces held.1.widest_is)),
    )
