-- The parts of a way have smaller numbers.
use Rattle.rf_frontier_tests.proofs.showing.+show_way.Given as goal

abbrev pub decreases-show_way : goal.decreases-show_way
decreases-show_way l = l.id.0
