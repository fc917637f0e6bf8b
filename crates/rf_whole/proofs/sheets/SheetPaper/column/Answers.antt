-- The sheet is where its tally ends.
use Rattle.rf_whole.proofs.sheets.SheetPaper.column.Goals as goal

pub returns : goal.returns
returns g c = λ blank pieces weight held. c.column.ensures blank.tally pieces weight (held.0, held.1.counts)
