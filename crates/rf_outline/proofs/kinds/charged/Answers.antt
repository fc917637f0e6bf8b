-- What is told flat and not holds flat and not.
use Rattle.std.proofs.Common.{true, false}
use Rattle.rf_outline.proofs.kinds.charged.Goals as goal

pub returns : goal.returns
returns c = λ ways d p. (c.charged_facts.ensures ways d false p.0, c.charged_facts-2.ensures ways d true p.1)
