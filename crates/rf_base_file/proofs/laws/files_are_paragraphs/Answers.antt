-- The law is the lemma.
use Rattle.rf_base_file.proofs.FileParagraphs.{file_is_paragraphs}
use Rattle.rf_base_file.proofs.laws.files_are_paragraphs.Goals as goal

pub returns : goal.returns
returns c = file_is_paragraphs
