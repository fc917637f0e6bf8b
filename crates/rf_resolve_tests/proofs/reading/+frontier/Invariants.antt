-- A node's parts have smaller numbers.
use Rattle.rf_resolve_tests.proofs.reading.+frontier.Given as goal

abbrev pub decreases-frontier : goal.decreases-frontier
decreases-frontier l = l.n.0
