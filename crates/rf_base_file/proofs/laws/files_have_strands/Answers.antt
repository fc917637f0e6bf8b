-- Settled items have the trees that the items have, and so the law is the lemma.
use Rattle.std.proofs.Common.{refl}
use Rattle.rf_base_grammar.specs.Token.{normal}
use Rattle.rf_base_file.proofs.SameTrees.{Treed-same}
use Rattle.rf_base_file.proofs.TreeStrands.{file_doc-signed}
use Rattle.rf_base_file.proofs.laws.files_have_strands.Goals as goal

pub returns : goal.returns
returns c style ts max trees treed =
    file_doc-signed style ts max trees (Treed-same ts (normal max ts) trees max treed refl)
