-- A charge is no character.
use Rattle.rf_walk.proofs.Covered.{charged}
use Rattle.rf_walk.proofs.extents.ExtentPaper.fee.Goals as goal

pub returns : goal.returns
returns c = λ blank. charged c.args.self.now c.args._k
