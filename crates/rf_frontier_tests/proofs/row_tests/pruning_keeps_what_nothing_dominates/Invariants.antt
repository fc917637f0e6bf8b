-- The ledger is that of the blank.
use Rattle.rf_frontier_tests.proofs.row_tests.pruning_keeps_what_nothing_dominates.Given as goal

abbrev pub ghosts-pruned : goal.ghosts-pruned
ghosts-pruned g a = record { name = a.blank.name; parts = a.blank.parts }
