-- A node's parts have smaller numbers.
use Rattle.rf_resolve_tests.proofs.reading.+chosen.Given as goal

abbrev pub decreases-chosen : goal.decreases-chosen
decreases-chosen l = l.n.0
