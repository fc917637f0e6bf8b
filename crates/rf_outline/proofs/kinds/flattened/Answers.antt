-- What holds of its part where that is flat holds of it.
use Rattle.rf_outline.proofs.Holds.{flattened_holds}
use Rattle.rf_outline.proofs.kinds.flattened.Goals as goal

pub returns : goal.returns
returns c = λ ways. flattened_holds ways c.args.a
