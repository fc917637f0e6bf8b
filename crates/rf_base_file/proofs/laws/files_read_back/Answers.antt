-- The law is the lemma.
use Rattle.rf_base_file.proofs.FileWeaving.{file_read_back}
use Rattle.rf_base_file.proofs.laws.files_read_back.Goals as goal

pub returns : goal.returns
returns c = file_read_back
