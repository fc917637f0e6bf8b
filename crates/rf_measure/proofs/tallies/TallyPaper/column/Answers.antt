-- The tally is where its extent ends.
use Rattle.rf_measure.proofs.tallies.TallyPaper.column.Goals as goal

pub returns : goal.returns
returns g c = λ blank pieces weight held. c.column.ensures c.args.self.now.extent pieces weight held.1.covers
