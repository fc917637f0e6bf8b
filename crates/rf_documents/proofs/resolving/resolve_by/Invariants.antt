-- The ledger is that of the blank.
use Rattle.rf_documents.proofs.resolving.resolve_by.Given as goal

abbrev pub ghosts-counted : goal.ghosts-counted
ghosts-counted g a = record { name = a.blank.name; parts = a.blank.parts }
