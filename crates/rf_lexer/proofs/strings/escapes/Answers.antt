-- How each character of a string is read.
use Rattle.rf_lexer.proofs.Cuts.{escaped_goes_on, quote_ends, other_goes_on}
use Rattle.rf_lexer.proofs.strings.escapes.Goals as goal

pub returns-then-escaped : goal.returns-then-escaped
returns-then-escaped c = escaped_goes_on c.args.escaped c.args.c c.if-escaped.true

pub returns-then-c-eq34 : goal.returns-then-c-eq34
returns-then-c-eq34 c = quote_ends c.args.escaped c.args.c c.if-escaped.false c.if-c-eq34.true

pub returns : goal.returns
returns c = other_goes_on c.args.escaped c.args.c c.if-escaped.false c.if-c-eq34.false
