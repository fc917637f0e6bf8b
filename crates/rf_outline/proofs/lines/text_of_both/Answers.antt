-- The lengths are added and the choices stand in order.
use Rattle.std.proofs.Common.{arith}
use Rattle.rf_outline.proofs.Concats.{text_both}
use Rattle.rf_outline.proofs.lines.text_of_both.Goals as goal

pub returns-clause-line : goal.returns-clause-line
returns-clause-line c =
    text_both c.args.hows.now _ c.args.len c.args.more c.in-Some.sum c.args.how c.args.behind c.in_ok-both.both (omega (arith, c.in-Some.ensures)) c.in_ok-both.ensures.in_ways c.in_ok-both.ensures.choices
