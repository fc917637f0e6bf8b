-- A charge of at least 1 is never free, and what has no layout or never is on one line doesn't, or isn't, where it is charged.
use Rattle.rf_outline.proofs.Holds.{charge_never, charge_of_never, charge_of_nothing}
use Rattle.rf_outline.proofs.kinds.charged_line.Goals as goal

pub returns-in-Nothing : goal.returns-in-Nothing
returns-in-Nothing c = λ ways. charge_of_nothing ways c.args.k c.args.a c.in-Nothing.is

pub returns-in-Never : goal.returns-in-Never
returns-in-Never c = λ ways. charge_of_never ways c.args.k c.args.a c.in-Never.is

pub returns-in_default : goal.returns-in_default
returns-in_default c = λ ways. charge_never ways c.args.k c.args.a c.if-k-gt0.true
