-- Both items are there.
use Rattle.std.proofs.Common.{arith}
use Rattle.rf_lines.proofs.Between.{token_there}
use Rattle.rf_lines.proofs.gaps.separator.Goals as goal

pub returns : goal.returns
returns c ts trees holds =
    let a = token_there c.args.tree.now ts trees c.args.before holds (omega (arith, c.args.tree.now.items.ok.0, c.len-items.ensures)) in
    let b = token_there c.args.tree.now ts trees c.args.next holds (omega (arith, c.args.tree.now.items.ok.0, c.len-items.ensures)) in
    (a.0, b.0, a.1, b.1, c.gap.ensures ts trees a.0 b.0 holds a.1 b.1)
