-- The law is the lemma.
use Rattle.rf_base_file.proofs.ListSizes.{paragraphs_documents}
use Rattle.rf_base_file.proofs.laws.slots_are_documents.Goals as goal

pub returns : goal.returns
returns c = λ style ts trees is. paragraphs_documents style ts trees is.rules
