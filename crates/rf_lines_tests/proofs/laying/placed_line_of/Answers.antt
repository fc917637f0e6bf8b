-- The style without a style file has its numbers in their ranges.
use Rattle.std.proofs.Common.{sym, subst}
use Rattle.rf_base_style.specs.Table.{IsStyle}
use Rattle.rf_base_style.proofs.Tables.{defaults_are_style}
use Rattle.rf_style.specs.StyleOf.{seen}
use Rattle.rf_style.specs.declared.style.Style.{Style}
use Rattle.rf_lines_tests.proofs.laying.placed_line_of.Goals as goal

pub first_node_line-requires-clause-style : goal.first_node_line-requires-clause-style
first_node_line-requires-clause-style c = subst (λ (s : Style). IsStyle (seen s)) (sym c.in_ok-style.ensures) defaults_are_style
