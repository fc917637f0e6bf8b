-- The ledger is that of the blank.
use Rattle.rf_frontier_tests.proofs.call_tests.answer.Given as goal

abbrev pub ghosts-each_call : goal.ghosts-each_call
ghosts-each_call g a = record { name = a.blank.name; parts = a.blank.parts }
