-- Blanks, and behind them at once an item.
use Rattle.std.specs.Str.{chars}
use Rattle.rf_lexer.proofs.GapParts.{gap_past, no_gap}
use Rattle.rf_lexer.proofs.gaps.behind_gap.Goals as goal

pub returns-then-stands_at_once-clause-gap : goal.returns-then-stands_at_once-clause-gap
returns-then-stands_at_once-clause-gap c =
    let text = chars c.args.text.now in
    let place = chars c.behind_space-place.result.now in
    gap_past 0 text place place c.behind_space-place.ensures (no_gap place (c.stands_at_once.ensures c.if-stands_at_once.true))
