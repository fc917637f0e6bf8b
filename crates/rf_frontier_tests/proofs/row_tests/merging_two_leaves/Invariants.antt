-- The ledger is that of the blank.
use Rattle.rf_frontier_tests.proofs.row_tests.merging_two_leaves.Given as goal

abbrev pub ghosts-merged : goal.ghosts-merged
ghosts-merged g a = record { name = a.blank.name; parts = a.blank.parts }
