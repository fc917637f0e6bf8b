-- From the root down to here the parts of marked nodes are marked.
use Rattle.rf_flat.specs.Cores.{core_nodes}
use Rattle.rf_flat.specs.Reached.{MarkedDownTo}
use Rattle.rf_flat.proofs.reaching.reached.Given as goal

abbrev pub invariant-loop-n : goal.invariant-loop-n
invariant-loop-n l = MarkedDownTo (core_nodes l.nodes) l.root l.n l.marks.items
