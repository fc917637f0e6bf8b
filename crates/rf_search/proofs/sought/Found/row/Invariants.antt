-- The rows of a node are looked at from the newest on.
use Rattle.rf_search.proofs.sought.Found.row.Given as goal

abbrev pub decreases-loop-at : goal.decreases-loop-at
decreases-loop-at g l = l.at
