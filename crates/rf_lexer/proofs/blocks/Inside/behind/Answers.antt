-- What each character does in a block comment.
use Rattle.std.proofs.Common.{refl, sym}
use Rattle.rf_lexer.proofs.Cuts.{closes_at, goes_deeper, goes_out, passes}
use Rattle.rf_lexer.proofs.blocks.Inside.behind.Goals as goal

pub returns-in-Opening : goal.returns-in-Opening
returns-in-Opening c = goes_deeper c.args.self _ c.args.c (sym c.in-Opening.ensures) refl

pub returns-in-Closing : goal.returns-in-Closing
returns-in-Closing c = closes_at c.args.self c.args.c c.if-around-eq0.true (sym c.in-Closing.ensures)

pub returns-in-Closing-2 : goal.returns-in-Closing-2
returns-in-Closing-2 c =
    goes_out c.args.self.around c.args.self.half _ c.args.c c.if-around-eq0.false (sym c.in-Closing.ensures) refl

pub returns-in-Passing : goal.returns-in-Passing
returns-in-Passing c = passes c.args.self c.args.c c.in-Passing.half c.in-Passing.ensures
