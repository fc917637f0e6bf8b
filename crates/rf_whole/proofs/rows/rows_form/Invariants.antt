-- The counter of steps is the one that the call is given.
use Rattle.rf_whole.proofs.rows.rows_form.Given as goal

abbrev pub ghosts-searched : goal.ghosts-searched
ghosts-searched g a = record { name = a.blank.name; parts = a.blank.parts }
