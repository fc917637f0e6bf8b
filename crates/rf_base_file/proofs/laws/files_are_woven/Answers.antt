-- The law is the lemma.
use Rattle.rf_base_file.proofs.FileWeaving.{file_woven}
use Rattle.rf_base_file.proofs.laws.files_are_woven.Goals as goal

pub returns : goal.returns
returns c = file_woven
