-- A node's parts have smaller numbers.
use Rattle.rf_resolve_tests.proofs.reading.+has_layout.Given as goal

abbrev pub decreases-has_layout : goal.decreases-has_layout
decreases-has_layout l = l.n.0
