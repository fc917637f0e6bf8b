-- What is behind has no layout, or never is on one line.
use Rattle.rf_outline.specs.declared.facts.Line.TheVariants.{Unsure}
use Rattle.rf_outline.proofs.Concats.{never_behind, nothing_behind}
use Rattle.rf_outline.proofs.lines.behind_unsure.Goals as goal

pub returns-in-Nothing : goal.returns-in-Nothing
returns-in-Nothing c = λ old new. nothing_behind old new Unsure c.args.b c.in-Nothing.is

pub returns-in-Never : goal.returns-in-Never
returns-in-Never c = λ old new. never_behind old new Unsure c.args.b c.in-Never.is
