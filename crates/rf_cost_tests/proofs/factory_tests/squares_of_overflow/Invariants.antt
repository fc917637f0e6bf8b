-- The ledger is that of the blank.
use Rattle.rf_cost_tests.proofs.factory_tests.squares_of_overflow.Given as goal

abbrev pub ghosts-orders : goal.ghosts-orders
ghosts-orders g a = record { name = a.blank.name; parts = a.blank.parts }
