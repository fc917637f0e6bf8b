-- The number of forms is in its range.
use Rattle.std.proofs.Common.{refl}
use Rattle.rf_top.proofs.asking.sampled.Goals as goal

pub sample-requires-clause-some : goal.sample-requires-clause-some
sample-requires-clause-some c = (c.requires.number c.args.n refl).0

pub sample-requires-clause-few : goal.sample-requires-clause-few
sample-requires-clause-few c = (c.requires.number c.args.n refl).1
