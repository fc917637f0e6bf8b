-- It has no layout where the second part has none, and is never on one line.
use Rattle.std.proofs.Common.{refl}
use Rattle.rf_outline.specs.declared.facts.Line.TheVariants.{Never}
use Rattle.rf_outline.proofs.Concats.{never_before, nothing_behind}
use Rattle.rf_outline.proofs.lines.behind_never.Goals as goal

pub returns-in-Nothing : goal.returns-in-Nothing
returns-in-Nothing c = λ old new. nothing_behind old new Never c.args.b c.in-Nothing.is

pub returns-in_default : goal.returns-in_default
returns-in_default c = λ old new. never_before old new Never c.args.b refl
