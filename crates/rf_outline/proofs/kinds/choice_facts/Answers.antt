-- It begins with a break where both sides do.
use Rattle.std.proofs.Common.{◌≡◌, false}
use Rattle.rf_outline.proofs.Holds.{choice_facts_hold}
use Rattle.rf_outline.proofs.kinds.choice_facts.Goals as goal

pub returns-then-a-clause-facts : goal.returns-then-a-clause-facts
returns-then-a-clause-facts c = choice_facts_hold c.args.hows.now _ c.args.a c.args.b c.in_ok-line.line c.args.b.begins c.in_ok-line.ensures.line (λ t. (c.if-a.true, t))

pub returns-else-a-clause-facts : goal.returns-else-a-clause-facts
returns-else-a-clause-facts c = choice_facts_hold c.args.hows.now _ c.args.a c.args.b c.in_ok-line.line c.args.a.begins c.in_ok-line.ensures.line (λ t. let not : c.args.a.begins ≡ false = c.if-a.false in cc)
