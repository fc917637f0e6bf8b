-- Texts of one length are one text.
use Rattle.std.proofs.Common.{◌≡◌, rules}
use Rattle.rf_outline.proofs.Choices.{left_text}
use Rattle.rf_outline.proofs.sides.texts.Goals as goal

pub returns-clause-line : goal.returns-clause-line
returns-clause-line c =
    let same : c.args.len ≡ c.args.other = search rules in
    left_text c.args.hows.now _ c.args.len c.args.other c.args.how c.args._way c.in_ok-left.left same c.in_ok-left.ensures.in_ways c.in_ok-left.ensures.choices
