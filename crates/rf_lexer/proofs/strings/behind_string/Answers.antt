-- The end of the text ends no string.
use Rattle.std.proofs.Common.{None}
use Rattle.rf_base_grammar.specs.Cuts.{string_cut}
use Rattle.rf_lexer.proofs.strings.behind_string.Goals as goal

pub returns : goal.returns
unfolding string_cut
returns c = c.loop-c.invariant.from_here None (rw c.in_default.ensures tt)
