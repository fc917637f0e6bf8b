-- What is behind has no layout or never is on one line, or nothing is known.
use Rattle.rf_outline.specs.declared.facts.Line.TheVariants.{Long}
use Rattle.rf_outline.proofs.Concats.{never_behind, nothing_behind}
use Rattle.rf_outline.proofs.lines.behind_long.Goals as goal

pub returns-in-Nothing-clause-line : goal.returns-in-Nothing-clause-line
returns-in-Nothing-clause-line c = nothing_behind c.args.hows.now c.args.hows.now (Long c.args.len c.args.how) c.args.b c.in-Nothing.is

pub returns-in-Never-clause-line : goal.returns-in-Never-clause-line
returns-in-Never-clause-line c = never_behind c.args.hows.now c.args.hows.now (Long c.args.len c.args.how) c.args.b c.in-Never.is
