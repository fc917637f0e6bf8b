-- The text has no line feed.
use Rattle.std.proofs.Common.{[], ◌∷◌, refl}
use Rattle.std.specs.Str.{chars}
use Rattle.rf_base_document.proofs.Document.{IsOneLine-from_test}
use Rattle.rf_outline_tests.proofs.outline_tests.without_a_layout.Goals as goal

pub text-requires-clause-one_line : goal.text-requires-clause-one_line
unfolding chars
text-requires-clause-one_line g c = IsOneLine-from_test (97 ∷ []) refl
