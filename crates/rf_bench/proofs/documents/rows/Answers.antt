-- The texts have no line feed.
use Rattle.std.proofs.Common.{[], ◌∷◌, refl}
use Rattle.std.specs.Str.{chars}
use Rattle.rf_base_document.proofs.Document.{IsOneLine-from_test}
use Rattle.rf_bench.proofs.documents.rows.Goals as goal

pub text-requires-clause-one_line : goal.text-requires-clause-one_line
unfolding chars
text-requires-clause-one_line c = IsOneLine-from_test [] refl

pub text-requires-in-loop-i-clause-one_line : goal.text-requires-in-loop-i-clause-one_line
unfolding chars
text-requires-in-loop-i-clause-one_line c = IsOneLine-from_test (119 ∷ 111 ∷ 114 ∷ 100 ∷ []) refl
