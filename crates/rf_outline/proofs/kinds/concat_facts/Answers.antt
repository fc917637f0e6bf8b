-- It begins as its first part does.
use Rattle.rf_outline.proofs.Holds.{concat_facts_hold}
use Rattle.rf_outline.proofs.kinds.concat_facts.Goals as goal

pub returns-clause-facts : goal.returns-clause-facts
returns-clause-facts c = concat_facts_hold c.args.hows.now _ c.args.a c.args.b c.in_ok-line.line c.in_ok-line.ensures.line
