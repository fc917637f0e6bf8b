-- The style without a style file has its numbers in their ranges.
use Rattle.std.proofs.Common.{sym, subst}
use Rattle.rf_base_style.specs.Table.{IsStyle}
use Rattle.rf_base_style.proofs.Tables.{defaults_are_style}
use Rattle.rf_style.specs.StyleOf.{seen}
use Rattle.rf_style.specs.declared.style.Style.{Style}
use Rattle.rf_forms_tests.proofs.laying.document_of.Goals as goal

pub file_doc-requires-clause-style : goal.file_doc-requires-clause-style
file_doc-requires-clause-style c = subst (λ (s : Style). IsStyle (seen s)) (sym c.in_ok-style.ensures) defaults_are_style
