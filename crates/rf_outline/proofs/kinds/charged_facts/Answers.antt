-- It begins as its part does.
use Rattle.rf_outline.proofs.Holds.{charged_facts_hold}
use Rattle.rf_outline.proofs.kinds.charged_facts.Goals as goal

pub returns : goal.returns
returns c = λ ways. charged_facts_hold ways c.args.k c.args.a c.charged_line.result (c.charged_line.ensures ways)
