-- The ledger is that of the blank.
use Rattle.rf_frontier_tests.proofs.row_tests.charging_a_leaf.Given as goal

abbrev pub ghosts-charged : goal.ghosts-charged
ghosts-charged g a = record { name = a.blank.name; parts = a.blank.parts }
