-- The marked nodes so far are kept at the front.
use Rattle.rf_flat.proofs.Fronts.{KeptInFront}
use Rattle.rf_flat.proofs.keeping.keep.Given as goal

abbrev pub invariant-loop-n : goal.invariant-loop-n
invariant-loop-n l = KeptInFront l.fn.nodes.items l.marks l.n l.count l.places.items l.nodes.items
