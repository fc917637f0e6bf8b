-- The law is the lemma.
use Rattle.rf_base_file.proofs.FileWeaving.{file_clean}
use Rattle.rf_base_file.proofs.laws.files_have_no_trailing_space.Goals as goal

pub returns : goal.returns
returns c = file_clean
