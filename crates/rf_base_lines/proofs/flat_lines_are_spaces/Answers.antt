-- The law is the lemma.
use Rattle.rf_base_lines.proofs.SpelledRows.{gap_soft}
use Rattle.rf_base_tree.specs.declared.separators.Want.TheVariants as want
use Rattle.rf_base_lines.proofs.flat_lines_are_spaces.Goals as goal

pub returns : goal.returns
returns c = λ ts before next. gap_soft ts before next want.Line tt
