-- The ledger is that of the blank.
use Rattle.rf_documents.proofs.searching.search_by.Given as goal

abbrev pub ghosts-counted : goal.ghosts-counted
ghosts-counted g a = record { name = a.blank.name; parts = a.blank.parts }
