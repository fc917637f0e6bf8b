-- The texts have no line feed, and at least half as many characters as columns.
use Rattle.std.proofs.Common.{[], ◌∷◌, refl, lit≤}
use Rattle.std.specs.Str.{chars}
use Rattle.rf_base_document.proofs.Document.{IsOneLine-from_test}
use Rattle.rf_doc_tests.proofs.graph_tests.a_text_has_the_columns_it_is_given.Goals as goal

pub sized-requires-clause-one_line : goal.sized-requires-clause-one_line
unfolding chars
sized-requires-clause-one_line g c = IsOneLine-from_test (28450 ∷ 23383 ∷ []) refl

pub sized-requires-clause-columns : goal.sized-requires-clause-columns
unfolding chars
sized-requires-clause-columns g c = lit≤ tt

pub sized-requires-2-clause-one_line : goal.sized-requires-2-clause-one_line
unfolding chars
sized-requires-2-clause-one_line g c = IsOneLine-from_test (97 ∷ 98 ∷ []) refl
