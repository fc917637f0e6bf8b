-- The ledger is that of the blank.
use Rattle.rf_frontier_tests.proofs.merging_tests.behind_three.Given as goal

abbrev pub ghosts-counted : goal.ghosts-counted
ghosts-counted a = record { name = a.blank.name; parts = a.blank.parts }
