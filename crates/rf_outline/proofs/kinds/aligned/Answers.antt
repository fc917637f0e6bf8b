-- Its line is its part's.
use Rattle.rf_outline.proofs.Holds.{aligned_holds}
use Rattle.rf_outline.proofs.kinds.aligned.Goals as goal

pub returns : goal.returns
returns c = λ ways. aligned_holds ways c.args.a
