-- The end of the text ends no comment.
use Rattle.std.proofs.Common.{None, arith, length, ◌≤◌}
use Rattle.std.specs.Str.{chars}
use Rattle.rf_base_grammar.specs.Cuts.{block_cut}
use Rattle.rf_lexer.proofs.Places.{chars_len}
use Rattle.rf_lexer.proofs.blocks.behind_block.Goals as goal

pub behind-requires : goal.behind-requires
behind-requires c =
    let few : length (chars c.args.text.now) ≤ length c.args.text.now = chars_len c.args.text.now c.utf8.text in
    omega (arith, few, c.loop-c.invariant.few)

pub returns : goal.returns
unfolding block_cut
returns c = c.loop-c.invariant.from_here None (rw c.in_default.ensures tt)
