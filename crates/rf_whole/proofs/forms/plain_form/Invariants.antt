-- The counter of steps is the one that the call is given.
use Rattle.rf_whole.proofs.forms.plain_form.Given as goal

abbrev pub ghosts-resolved : goal.ghosts-resolved
ghosts-resolved g a = record { name = a.blank.name; parts = a.blank.parts }
