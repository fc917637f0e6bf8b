-- A node's parts have smaller numbers.
use Rattle.rf_resolve_tests.proofs.listing.+lay_out.Given as goal

abbrev pub decreases-lay_out : goal.decreases-lay_out
decreases-lay_out l = l.n.0
