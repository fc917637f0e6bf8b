-- A choice changes the tally alone.
use Rattle.std.proofs.lemmas.Result.{err_from_is_err_and}
use Rattle.rf_whole.proofs.sheets.SheetPaper.choice.Goals as goal

pub choice-requires : goal.choice-requires
choice-requires g c = let held = c.requires in (held.0.tally, held.1, held.2, (held.3.0, held.3.1.counts))

pub returns-clause-counted : goal.returns-clause-counted
returns-clause-counted g c = λ blank pieces weight held.
    let gains = c.in_ok-choice.ensures.counted blank.tally pieces weight (held.0, held.1.counts) in
    (gains.0, record { text_is = held.1.text_is; counts = gains.1; widest_is = held.1.widest_is })

pub returns-in_err-choice-clause-too_long : goal.returns-in_err-choice-clause-too_long
returns-in_err-choice-clause-too_long g c = λ long blank pieces weight held.
    let p = err_from_is_err_and c.from_residual.result c.from_residual.ensures.1 in
    c.in_err-choice.ensures.too_long (cc) blank.tally pieces weight (held.0, held.1.counts)
